-- Laws of skipped places, and what they say of the list. Assumes nothing.
use mathlib.Core.Path.{◌≡◌, sym, ap, ◌∙◌}
use mathlib.Core.Bool.{Bool, true, false}
use mathlib.Core.List.{List, [], ◌∷◌}
use mathlib.Core.Option.{some}
use Prim.Native.Nat.{ℕ, zero, suc, ◌+◌, ◌-◌, ◌≤◌, ◌<◌}
use native.Mathlib.Decide.{dec_lt}
use native.Mathlib.Numerals.{add-one}
use native.Mathlib.Omega.{arith}
use lib.ListN.{length, take, drop, get_or, drop_of_length-le}
use lib.Seq.{drop-cons, get_or-take, length-take-le}
use Rattle.arrays.specs.Lists.{keep, first_that}
use Rattle.arrays.proofs.Lists.{is_false, keep_yes, keep_no, first_yes}
use Rattle.limits.proofs.Refusals.{true_not_false}
use Rattle.search_filter.specs.Places.{Skips}

-- ---- skipped places
pub skips-none : (test : ℕ → Bool) (order : List ℕ) (a : ℕ) → Skips test order a a
skips-none test order a k l h = absurd (omega arith)

pub skips_join : (test : ℕ → Bool) (order : List ℕ) (a b c : ℕ) → Skips test order a b → Skips test order b c → Skips test order a c
skips_join test order a b c s t k l h = elim (dec_lt k b) [ yes before ↦ s k l before | no after ↦ t k (omega arith) h ]

-- one place more
pub skips-more : (test : ℕ → Bool) (order : List ℕ) (a b : ℕ) → Skips test order a b → test (get_or order b 0) ≡ false → Skips test order a (b + 1)
skips-more test order a b s e k l h = elim (dec_lt k b) [
  | yes before ↦ s k l before
  | no after ↦ let q : k ≡ b = omega arith in ap (λ (i : ℕ). test (get_or order i 0)) q ∙ e
]

-- a narrower test skips them too
pub skips-narrow : (class test : ℕ → Bool) (order : List ℕ) (a b : ℕ) → ((s : ℕ) → test s ≡ true → class s ≡ true) → Skips class order a b → Skips test order a b
skips-narrow class test order a b narrow s k l h =
    is_false (test (get_or order k 0)) (λ e. true_not_false (sym (narrow (get_or order k 0) e) ∙ s k l h))

-- ---- the first n of a list, from a place on
module _ (test : ℕ → Bool) (n : ℕ) (order : List ℕ) (fit : n ≤ length order) where
  -- place k and what comes after it
  pub from_place : (k : ℕ) → k < n → drop k (take n order) ≡ get_or order k 0 ∷ drop (k + 1) (take n order)
  from_place k h =
      drop-cons (take n order) k 0 (omega (arith, length-take-le n order fit))
      ∙ ap (λ (x : ℕ). x ∷ drop (suc k) (take n order)) (get_or-take n order k 0 h)
      ∙ ap (λ (i : ℕ). get_or order k 0 ∷ drop i (take n order)) (sym (add-one k))

  pub from_end : (k : ℕ) → n ≤ k → drop k (take n order) ≡ []
  from_end k h = drop_of_length-le (take n order) {i = k} (omega (arith, length-take-le n order fit))

  -- a place that passes
  pub keep_at : (k : ℕ) → k < n → test (get_or order k 0) ≡ true → keep test (drop k (take n order)) ≡ get_or order k 0 ∷ keep test (drop (k + 1) (take n order))
  keep_at k h e = ap (keep test) (from_place k h) ∙ keep_yes test (get_or order k 0) (drop (k + 1) (take n order)) e

  pub first-at : (k : ℕ) → k < n → test (get_or order k 0) ≡ true → first_that test (drop k (take n order)) ≡ some (get_or order k 0)
  first-at k h e = ap (first_that test) (from_place k h) ∙ first_yes test (get_or order k 0) (drop (k + 1) (take n order)) e

  -- the end
  pub keep_end : (k : ℕ) → n ≤ k → keep test (drop k (take n order)) ≡ []
  unfolding keep
  keep_end k h = ap (keep test) (from_end k h)

  -- skipped places
  keep_skip : (a d : ℕ) → a + d ≤ n → Skips test order a (a + d) → keep test (drop a (take n order)) ≡ keep test (drop (a + d) (take n order))
  keep_skip a zero h s = let e : a ≡ a + 0 = omega arith in ap (λ (i : ℕ). keep test (drop i (take n order))) e
  keep_skip a (suc d) h s =
      let e : a + d + 1 ≡ a + suc d = omega arith in
      keep_skip a d (omega arith) (λ k l b. s k l (omega arith))
      ∙ ap (keep test) (from_place (a + d) (omega arith))
      ∙ keep_no test (get_or order (a + d) 0) (drop (a + d + 1) (take n order)) (s (a + d) (omega arith) (omega arith))
      ∙ ap (λ (i : ℕ). keep test (drop i (take n order))) e

  pub keep-skips : (a b : ℕ) → a ≤ b → b ≤ n → Skips test order a b → keep test (drop a (take n order)) ≡ keep test (drop b (take n order))
  keep-skips a b l h s =
      let e : a + (b - a) ≡ b = omega arith in
      keep_skip a (b - a) (omega arith) (λ k x y. s k x (omega arith)) ∙ ap (λ (i : ℕ). keep test (drop i (take n order))) e
