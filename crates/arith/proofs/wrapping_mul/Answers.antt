-- `arith::wrapping_mul` meets its contract: the halves' products are the digits of the product (`halves` of proofs/Remainders). Assumes nothing.
use Rattle.std.proofs.Common.{ℕ, ◌+◌, ◌*◌, ◌/◌, ◌%◌, ◌^◌, ap, ◌∙◌, shr_lt}
use lib.Bits.{bit_and, and_mask, mask_lt}
use Rattle.arith.proofs.Remainders.{halves_lt, halves}
use Rattle.arith.proofs.wrapping_mul.Goals as goal

pub overflow_mul-a0 : goal.overflow_mul-a0
overflow_mul-a0 c = record { fits = halves_lt (mask_lt c.args.a 32) (shr_lt 32 32 c.ranges.b.fits) }

pub overflow_mul-a1 : goal.overflow_mul-a1
overflow_mul-a1 c = record { fits = halves_lt (shr_lt 32 32 c.ranges.a.fits) (mask_lt c.args.b 32) }

pub overflow_mul-a0-2 : goal.overflow_mul-a0-2
overflow_mul-a0-2 c = record { fits = halves_lt (mask_lt c.args.a 32) (mask_lt c.args.b 32) }

-- what the code computes, with `lo` for how the low half is taken
abbrev code : (lo : ℕ → ℕ) (a b : ℕ) → ℕ
code lo a b = (((lo a * (b / 2 ^ 32) + a / 2 ^ 32 * lo b) % 2 ^ 64 * 2 ^ 32) % 2 ^ 64 + lo a * lo b) % 2 ^ 64

pub returns : goal.returns
returns c =
    let s = c.args in
    c.wrapping_add_u64.ensures.value
    ∙ ap (λ (x : ℕ). ((x * 2 ^ 32) % 2 ^ 64 + bit_and s.a 0xffff_ffff * bit_and s.b 0xffff_ffff) % 2 ^ 64) c.wrapping_add_u64-cross.ensures.value
    ∙ (λ i. code (λ (n : ℕ). and_mask n 32 i) s.a s.b)
    ∙ halves s.a s.b
