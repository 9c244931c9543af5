-- Laws of single bits: their range, and those of a union and of a power of two. Assumes nothing.
use Rattle.std.proofs.Common.{◌≡◌, ℕ, zero, suc, ◌*◌, ◌/◌, ◌%◌, ◌^◌, ◌<◌, ◌≤◌, max, refl, ap, ◌∙◌, mod-lt, mod-eq_of_lt, pow-suc, div-one, arith, pow_pos}
use native.Mathlib.Nat.{div-eq_of_lt, mul-add-mod_self_right, mul-div-mul_right}
use lib.Bits.{bit_or, or_step, or_shr}
use lib.Pow.{pow-lt}
use Rattle.arith.specs.Word.{bit_of}

pub bit_low : (s i : ℕ) → bit_of s i ≤ 1
bit_low s i = let h : s / 2 ^ i % 2 < 2 = mod-lt (s / 2 ^ i) (omega arith) in omega arith

-- of the bitwise or of two numbers: the greater of their bits
pub bit_of-bit_or : (a b i : ℕ) → bit_of (bit_or a b) i ≡ max (bit_of a i) (bit_of b i)
bit_of-bit_or a b i =
    ap (λ (x : ℕ). x % 2) (or_shr a b i ∙ or_step (a / 2 ^ i) (b / 2 ^ i))
    ∙ mul-add-mod_self_right (bit_or (a / 2 ^ i / 2) (b / 2 ^ i / 2)) 2 (max (bit_of a i) (bit_of b i))
    ∙ mod-eq_of_lt (omega (arith, bit_low a i, bit_low b i))

-- of 2^j: bit j is set ..
bit_shifted : (j i : ℕ) → bit_of (2 ^ suc j) (suc i) ≡ bit_of (2 ^ j) i
bit_shifted j i = rw (pow-suc 2 j, pow-suc 2 i) (ap (λ (x : ℕ). x % 2) (mul-div-mul_right (2 ^ j) (2 ^ i) (omega arith)))

pub bit_one : (j : ℕ) → bit_of (2 ^ j) j ≡ 1
bit_one zero = refl
bit_one (suc j) = bit_shifted j j ∙ bit_one j

-- .. and no other
pub bit_other : (j i : ℕ) → (i ≡ j → ⊥) → bit_of (2 ^ j) i ≡ 0
bit_other zero zero h = absurd (h refl)
bit_other zero (suc i) h = ap (λ (x : ℕ). x % 2) (div-eq_of_lt (pow-lt {i = 0} {j = suc i} (omega arith)))
bit_other (suc j) zero h = rw (pow-suc 2 j, div-one (2 ^ j * 2)) (omega arith)
bit_other (suc j) (suc i) h = bit_shifted j i ∙ bit_other j i (λ e. h (ap suc e))

-- 0 has none
pub bit_none : (i : ℕ) → bit_of 0 i ≡ 0
bit_none i = ap (λ (x : ℕ). x % 2) (div-eq_of_lt (pow_pos i))
