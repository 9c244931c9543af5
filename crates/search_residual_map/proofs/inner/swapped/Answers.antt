-- `search_residual_map::inner::swapped` meets its contract: of two halves that share no bit, the union is the sum. Assumes nothing.
use Rattle.std.proofs.Common.{◌≡◌, ℕ, ◌*◌, ◌/◌, ◌%◌, ◌^◌, ◌<◌, ap, ◌∙◌, arith}
use lib.Bits.{bit_or, or_shifted}
use Rattle.search_residual_map.specs.Map.{swapped_of}
use Rattle.search_residual_map.proofs.inner.swapped.Goals as goal

turned : (x : ℕ) → x < 2 ^ 64 → bit_or (x * 2 ^ 32 % 2 ^ 64) (x / 2 ^ 32) ≡ swapped_of x
unfolding swapped_of
turned x h =
    let high : x * 2 ^ 32 % 2 ^ 64 ≡ x % 2 ^ 32 * 2 ^ 32 = omega arith in
    ap (λ (n : ℕ). bit_or n (x / 2 ^ 32)) high
    ∙ or_shifted (x % 2 ^ 32) 32 (x / 2 ^ 32) (omega arith)
    ∙ omega arith

pub returns : goal.returns
returns c = c.rotate_left.ensures ∙ turned c.args.x (omega arith)
