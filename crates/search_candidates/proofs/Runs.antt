-- Laws of a run of slots that is copied to the list. Assumes nothing.
use mathlib.Core.Path.{◌≡◌, sym, ap, ◌∙◌}
use mathlib.Core.Bool.{Bool, true}
use mathlib.Core.List.{List, ◌∷◌, ◌++◌}
use Prim.Native.Nat.{ℕ, zero, suc, ◌+◌, ◌-◌, ◌≤◌, ◌<◌}
use native.Mathlib.Decide.{dec_lt}
use native.Mathlib.Numerals.{add-one}
use native.Mathlib.Omega.{arith}
use lib.ListN.{length, take, drop, get_or, set, length-drop}
use lib.Seq.{drop-cons, get_or-drop, paste, paste-suc}
use Rattle.arrays.specs.Lists.{keep}
use Rattle.search_filter.specs.Places.{word_at}
use Rattle.search_filter.proofs.PlaceLaws.{keep_at}

-- the run from `at` on goes on up to place i, and is copied
pub record RunTo (n : ℕ) (rows order old new : List ℕ) (at k i : ℕ) : Type 0 where
  pub from : at ≤ i
  pub to : i ≤ n
  pub same : (m : ℕ) → at ≤ m → m < i → word_at rows order m ≡ word_at rows order at
  pub whole : new ≡ paste old k (drop at order) (i - at)

module _ (n : ℕ) (rows order old : List ℕ) (at k : ℕ) (fit : n ≤ length order) (room : n ≤ length old) (some : at < n) (few : k ≤ at) where
  module _ (new : List ℕ) (i : ℕ) (r : RunTo n rows order old new at k i) where
    -- one slot more
    pub run_more : i < n → word_at rows order i ≡ word_at rows order at → RunTo n rows order old (set new (k + (i - at)) (get_or order i 0)) at k (i + 1)
    run_more h e =
        let d = i - at in
        let slot : get_or order i 0 ≡ get_or (drop at order) d 0 = let q : i ≡ at + d = omega (arith, r.from) in ap (λ (m : ℕ). get_or order m 0) q ∙ sym (get_or-drop at order d 0) in
        let next : suc d ≡ i + 1 - at = omega (arith, r.from) in
        record {
          from = omega (arith, r.from);
          to = omega arith;
          same = λ m l b. elim (dec_lt m i) [ yes q ↦ r.same m l q | no q ↦ let s : m ≡ i = omega arith in ap (word_at rows order) s ∙ e ];
          whole =
              ap (λ (l : List ℕ). set l (k + d) (get_or order i 0)) r.whole
              ∙ ap (set (paste old k (drop at order) d) (k + d)) slot
              ∙ paste-suc old k (drop at order) d 0 (omega (arith, r.from)) (omega (arith, length-drop at order))
              ∙ ap (paste old k (drop at order)) next;
        }

-- what is kept of a run is the run
pub keep_run : (test : ℕ → Bool) (n : ℕ) (order : List ℕ) → n ≤ length order → (at d : ℕ) → at + d ≤ n → ((i : ℕ) → at ≤ i → i < at + d → test (get_or order i 0) ≡ true)
    → keep test (drop at (take n order)) ≡ take d (drop at order) ++ keep test (drop (at + d) (take n order))
keep_run test n order fit at zero h each = let e : at ≡ at + 0 = omega arith in ap (λ (i : ℕ). keep test (drop i (take n order))) e
keep_run test n order fit at (suc d) h each =
    let next : at + 1 + d ≡ at + suc d = omega arith in
    let x = get_or order at 0 in
    keep_at test n order fit at (omega arith) (each at (omega arith) (omega arith))
    ∙ ap (λ (l : List ℕ). x ∷ l) (keep_run test n order fit (at + 1) d (omega arith) (λ i l b. each i (omega arith) (omega arith)))
    ∙ ap (λ (i : ℕ). x ∷ take d (drop (at + 1) order) ++ keep test (drop i (take n order))) next
    ∙ ap (λ (i : ℕ). x ∷ take d (drop i order) ++ keep test (drop (at + suc d) (take n order))) (add-one at)
    ∙ ap (λ (l : List ℕ). take (suc d) l ++ keep test (drop (at + suc d) (take n order))) (sym (drop-cons order at 0 (omega arith)))
