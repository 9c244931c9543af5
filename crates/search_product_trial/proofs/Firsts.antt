-- First words of what fits: their product is the target's first word; and numbers that are passed over. Assumes nothing.
use mathlib.Core.Path.{◌≡◌, sym, ap, ap₂, ◌∙◌}
use mathlib.Core.Bool.{Bool, true, false}
use mathlib.Core.List.{List}
use Prim.Native.Nat.{ℕ, ◌+◌, ◌*◌, ◌%◌, ◌^◌, ◌≤◌, ◌<◌}
use native.Mathlib.Decide.{dec_lt}
use native.Mathlib.Omega.{arith}
use lib.ListN.{get_or}
use Rattle.arith.specs.Word.{modulus}
use Rattle.arrays.proofs.Lists.{is_false}
use Rattle.arith.proofs.Remainders.{modulus-is}
use Rattle.index_order.specs.Order.{first_word}
use Rattle.search_product_trial.specs.Steps.{fits_at, Target}
use Rattle.search_product_trial.proofs.Trials.{fits-lane}

pub first-place-is : (s : ℕ) → 16 * s + 0 ≡ 16 * s
first-place-is s = omega arith

module _ (w : ℕ) (target xs ys : List ℕ) (a b : ℕ) (ok : Target w target) where
  -- the product of the first words of what fits
  pub first-product : fits_at w target xs a ys b ≡ true → (first_word xs a * first_word ys b) % 2 ^ w ≡ get_or target 0 0
  first-product e =
      ap₂ (λ (i j : ℕ). (get_or xs i 0 * get_or ys j 0) % 2 ^ w) (sym (first-place-is a)) (sym (first-place-is b)) ∙ fits-lane w target xs ys a b ok e 0 (omega arith)

  -- another product of the first words
  pub first-not : (x y p : ℕ) → x ≡ first_word xs a → y ≡ first_word ys b → p ≡ (x * y) % modulus w → (p ≡ get_or target 0 0 → ⊥) → fits_at w target xs a ys b ≡ false
  first-not x y p ex ey e n =
      is_false (fits_at w target xs a ys b)
      (λ f. n (e ∙ ap₂ (λ (x y : ℕ). (x * y) % modulus w) ex ey ∙ ap (λ (m : ℕ). (first_word xs a * first_word ys b) % m) (modulus-is w ok.width) ∙ first-product f))

-- ---- numbers that don't pass, from a start on
pub skip_more : (test : ℕ → Bool) (start b : ℕ) → ((k : ℕ) → start ≤ k → k < b → test k ≡ false) → test b ≡ false → (k : ℕ) → start ≤ k → k < b + 1 → test k ≡ false
skip_more test start b h e k l m = elim (dec_lt k b) [
  | yes before ↦ h k l before
  | no after ↦ let q : k ≡ b = omega arith in ap test q ∙ e
]
