-- The trailing zeros of a number, as arithmetic: it is 2^z times an odd number. Assumes nothing.
use mathlib.Core.Path.{◌≡◌, refl, sym, ap, ◌∙◌, subst}
use mathlib.Core.Logic.{◌⊎◌, inl, inr}
use Prim.Native.Nat.{ℕ, zero, suc, ◌+◌, ◌-◌, ◌*◌, ◌/◌, ◌%◌, ◌^◌, ◌≤◌, ◌<◌}
use native.Mathlib.Nat.{add-zero, one-mul, mul_assoc, mul_comm, mul_left_comm, pow-suc, mul-div_right, le_trans, lt_irrefl, lt_of_lt_of_le, le-mul_of_pos_right}
use native.Mathlib.Omega.{arith}
use lib.Pow.{pow_pos, pow_mono, pow-add, split}
use lib.Count.{count_trailing_zeros, under}
use Rattle.limits.proofs.Refusals.{le_or_lt}

-- n is 2 ^ z times the odd number o
pub record OddPart (z n : ℕ) : Type 0 where
  pub o : ℕ
  pub split : n ≡ 2 ^ z * o
  pub odd : o % 2 ≡ 1

pub trailing_zeros_odd : (k n : ℕ) → zero < n → n < 2 ^ k → OddPart (count_trailing_zeros k n) n
unfolding count_trailing_zeros
trailing_zeros_odd zero n p h = absurd (omega arith)
trailing_zeros_odd (suc k) n p h = go (λ q l. trailing_zeros_odd k (n / 2) q l) (n % 2) refl
  where
    go : (zero < n / 2 → n / 2 < 2 ^ k → OddPart (count_trailing_zeros k (n / 2)) (n / 2)) → (d : ℕ) → n % 2 ≡ d → OddPart (under d (count_trailing_zeros k (n / 2))) n
    go rest zero e =
        let ih = rest (omega arith) (omega arith) in
        let t = count_trailing_zeros k (n / 2) in
        let half : n ≡ n / 2 * 2 = omega arith in
        let ring : 2 ^ t * ih.o * 2 ≡ 2 ^ suc t * ih.o = simp (mul_assoc, mul_comm, mul_left_comm, pow-suc) refl in
        record { o = ih.o; split = half ∙ ap (λ (x : ℕ). x * 2) ih.split ∙ ring; odd = ih.odd }
    go rest (suc d) e = record { o = n; split = sym (one-mul n); odd = omega arith }

module _ {z n : ℕ} (part : OddPart z n) where
  -- the odd number is what a shift by z leaves
  pub shifted : n / 2 ^ z ≡ part.o
  shifted = ap (λ (x : ℕ). x / 2 ^ z) part.split ∙ mul-div_right part.o (pow_pos z)

  -- below 2 ^ w there are fewer zeros than w
  pub zeros_lt : (w : ℕ) → n < 2 ^ w → z < w
  zeros_lt w h = go (le_or_lt w z)
    where
      go : (w ≤ z) ⊎ (z < w) → z < w
      go (inr l) = l
      go (inl l) =
          let some : zero < part.o = omega (arith, part.odd) in
          let least : 2 ^ z ≤ n = subst (λ (x : ℕ). 2 ^ z ≤ x) (sym part.split) (le-mul_of_pos_right (2 ^ z) some) in
          absurd (lt_irrefl n (lt_of_lt_of_le h (le_trans (pow_mono l) least)))

  -- a larger power of two doesn't divide it
  pub zeros-most : (k : ℕ) → z < k → n % 2 ^ k ≡ 0 → ⊥
  zeros-most k l e =
      let q = n / 2 ^ k in
      let r = 2 ^ (k - suc z) in
      let sum : k ≡ z + suc (k - suc z) = omega arith in
      let pow : 2 ^ k ≡ 2 ^ z * (2 * r) = ap (λ (i : ℕ). 2 ^ i) sum ∙ pow-add 2 z (suc (k - suc z)) ∙ ap (λ (x : ℕ). 2 ^ z * x) (pow-suc 2 (k - suc z) ∙ mul_comm r 2) in
      let ring : q * (2 ^ z * (2 * r)) ≡ 2 ^ z * (2 * (q * r)) = simp mul_left_comm refl in
      let even : n ≡ 2 ^ z * (2 * (q * r)) = sym (split n k) ∙ ap (λ (x : ℕ). q * 2 ^ k + x) e ∙ add-zero (q * 2 ^ k) ∙ ap (λ (x : ℕ). q * x) pow ∙ ring in
      let o-even : part.o ≡ 2 * (q * r) = sym shifted ∙ ap (λ (x : ℕ). x / 2 ^ z) even ∙ mul-div_right (2 * (q * r)) (pow_pos z) in
      omega (arith, part.odd, o-even)

-- none stands below a bit of 0
pub zeros_of_none : count_trailing_zeros 64 0 ≡ 64
unfolding count_trailing_zeros
zeros_of_none = refl
