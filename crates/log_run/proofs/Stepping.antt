-- Records taken one after the other, some at a time. Assumes nothing.
use mathlib.Core.Path.{◌≡◌, refl, sym, ap, ap₂, ◌∙◌}
use mathlib.Core.Logic.{◌⊎◌, inl, inr}
use mathlib.Core.Bool.{Bool, true, false, not, cond, ◌&&◌}
use mathlib.Core.List.{List, [], ◌∷◌, map}
use Prim.Native.Nat.{ℕ, zero, suc, ◌+◌, ◌-◌, ◌*◌, ◌^◌, ◌≤◌, ◌<◌}
use native.Mathlib.Nat.{eq-zero-or-pos, mul-add, mul-le-mul_left, add-zero, add-suc}
use native.Mathlib.Numerals.{add-one}
use native.Mathlib.Omega.{arith}
use borrow.Author.Tests.{ltb-false, lt-ltb, le-ltb, eq-eqb, ne_eqb}
use lib.Dec.{ltb, eqb}
use lib.ListN.{length, get_or, take, drop, length-map, length-drop}
use lib.Seq.{length-take-le, ext_get_or}
use Rattle.arrays.specs.Lists.{count_up}
use Rattle.arrays.specs.Parts.{part_at}
use Rattle.arrays.proofs.Lists.{bool_cases, get_d_map, get_or-count, length-count}
use Rattle.limits.specs.Refusal.{unless_refused}
use Rattle.limits.proofs.Refusals.{true_not_false, and_both, unless_refused_lem, unless_not}
use Rattle.log_rules.specs.Rules.{Rules, rule_at, bad_ranks, log_refusal}
use Rattle.log_rules.specs.Firing.{no_rank, fires, seen}
use Rattle.log_rules.specs.Steps.{formulas_refusal, rules_refusal, lent_refusal, Lends, past_at, fires_on, rank_at, window_at}
use Rattle.log_rules.proofs.Tests.{rank_same, refusal_lent, refusal_rules, rules_formulas, rules_ranks}
use Rattle.log_run.specs.declared.Shown.{Shown}
use Rattle.log_run.specs.declared.Log.{Log}
use Rattle.log_run.specs.Step.{Reply, capped, noted, rank_on, windows_on, stepped, log_after, logged}
use Rattle.log_run.specs.Steps.{Took, open_log, Takes, took_says, noted_over}

-- ---- what is shown
pub capped-low : (n : ℕ) → n < 2 ^ 64 → capped n ≡ n
capped-low n h = ap (λ (b : Bool). cond b n (2 ^ 64 - 1)) (lt-ltb n (2 ^ 64) h)

pub capped-high : (n : ℕ) → 2 ^ 64 ≤ n → capped n ≡ 2 ^ 64 - 1
capped-high n h = ap (λ (b : Bool). cond b n (2 ^ 64 - 1)) (le-ltb n (2 ^ 64) h)

module _ (rank : ℕ) (s : Shown) where
  -- `noted` by its two tests
  abbrev noted_by : Bool → Bool → Shown
  noted_by f o = record {
    number = capped (suc s.number);
    close = cond (f && o) (capped (suc s.number)) s.close;
    rank = cond (f && o) rank s.rank;
    later = cond (f && not o) (capped (suc s.later)) s.later;
  }

  -- each of its three cases; `number` is the record's
  module _ (number : ℕ) (e : number ≡ capped (suc s.number)) where
    pub noted-none : no_rank ≤ rank → record { number = number; close = s.close; rank = s.rank; later = s.later } ≡ noted rank s
    noted-none h =
        (λ i. record { number = e i; close = s.close; rank = s.rank; later = s.later }) ∙ ap (λ (f : Bool). noted_by f (eqb s.close 0)) (sym (le-ltb rank no_rank h))

    pub noted_close : rank < no_rank → s.close ≡ 0 → record { number = number; close = number; rank = rank; later = s.later } ≡ noted rank s
    noted_close h z = (λ i. record { number = e i; close = e i; rank = rank; later = s.later }) ∙ ap₂ noted_by (sym (lt-ltb rank no_rank h)) (sym (eq-eqb s.close 0 z))

    pub noted-later : rank < no_rank → (s.close ≡ 0 → ⊥) → (later : ℕ) → later ≡ capped (suc s.later)
        → record { number = number; close = s.close; rank = s.rank; later = later } ≡ noted rank s
    noted-later h z later f =
        (λ i. record { number = e i; close = s.close; rank = s.rank; later = f i }) ∙ ap₂ noted_by (sym (lt-ltb rank no_rank h)) (sym (ne_eqb s.close 0 z))

pub noted-same : (f g : ℕ → ℕ) (s : Shown) (n : ℕ) → ((k : ℕ) → k < n → f k ≡ g k) → noted_over f s n ≡ noted_over g s n
unfolding noted_over
noted-same f g s zero h = refl
noted-same f g s (suc n) h = ap₂ noted (h n (omega arith)) (noted-same f g s n (λ k l. h k (omega arith)))

pub noted_more : (f : ℕ → ℕ) (s t : Shown) (n : ℕ) → t ≡ noted (f n) (noted_over f s n) → t ≡ noted_over f s (n + 1)
unfolding noted_over
noted_more f s t n e = e ∙ ap (noted_over f s) (sym (add-one n))

pub noted_one : (rank : ℕ) (s t : Shown) → t ≡ noted rank s → t ≡ noted_over (λ (k : ℕ). get_or (rank ∷ []) k 0) s 1
unfolding noted_over
noted_one rank s t e = e

pub noted-start : (f : ℕ → ℕ) (s : Shown) → s ≡ noted_over f s 0
unfolding noted_over
noted-start f s = refl

-- ---- the eight windows
eight : (f : ℕ → ℕ) (i : ℕ) → i < 8 → get_or (map f (count_up 0 8)) i 0 ≡ f i
eight f i l = get_d_map f (count_up 0 8) i 0 0 (omega (arith, length-count 0 8)) ∙ ap f (get_or-count 0 8 i 0 l ∙ omega arith)

pub windows-are : (f : ℕ → ℕ) (l : List ℕ) → length l ≡ 8 → ((i : ℕ) → i < 8 → get_or l i 0 ≡ f i) → l ≡ map f (count_up 0 8)
windows-are f l e h = ext_get_or 0 l (map f (count_up 0 8)) (e ∙ sym (length-map (count_up 0 8) f ∙ length-count 0 8)) (λ i lt. h i (omega (arith, e)) ∙ sym (eight f i (omega (arith, e))))

module _ (nv w : ℕ) (rules : Rules) where
  -- ---- one record
  pub step_open : (x : List ℕ) (l : Log) → l.begun ≡ true → stepped nv w rules x l ≡ record { begun = true; shown = noted (rank_on nv w rules x l.windows) l.shown; windows = windows_on nv w rules x l.windows }
  unfolding stepped
  step_open x l e = ap (λ (b : Bool). cond b (record { begun = true; shown = noted (rank_on nv w rules x l.windows) l.shown; windows = windows_on nv w rules x l.windows }) l) e

  pub step-shut : (x : List ℕ) (l : Log) → l.begun ≡ false → stepped nv w rules x l ≡ l
  unfolding stepped
  step-shut x l e = ap (λ (b : Bool). cond b (record { begun = true; shown = noted (rank_on nv w rules x l.windows) l.shown; windows = windows_on nv w rules x l.windows }) l) e

  -- ---- many
  -- without a sounding nothing changes
  pub after-shut : (records : List ℕ) (l : Log) → l.begun ≡ false → (n : ℕ) → log_after nv w rules records l n ≡ l
  unfolding log_after
  after-shut records l e zero = refl
  after-shut records l e (suc n) = ap (stepped nv w rules (part_at nv records n)) (after-shut records l e n) ∙ step-shut (part_at nv records n) l e

  pub after-begun : (records : List ℕ) (l : Log) → l.begun ≡ true → (n : ℕ) → (log_after nv w rules records l n).begun ≡ true
  unfolding log_after
  after-begun records l e zero = e
  after-begun records l e (suc n) = ap (λ (x : Log). x.begun) (step_open (part_at nv records n) (log_after nv w rules records l n) (after-begun records l e n))

  pub after_none : (records : List ℕ) (l : Log) → log_after nv w rules records l 0 ≡ l
  unfolding log_after
  after_none records l = refl

  -- a records, and then b of another array, are a + b of one that has them all
  pub after-joined : (all some : List ℕ) (l : Log) (a b : ℕ) → ((j : ℕ) → j < b → part_at nv some j ≡ part_at nv all (a + j))
      → log_after nv w rules some (log_after nv w rules all l a) b ≡ log_after nv w rules all l (a + b)
  unfolding log_after
  after-joined all some l a zero h = ap (log_after nv w rules all l) (sym (add-zero a))
  after-joined all some l a (suc b) h =
      ap₂ (stepped nv w rules) (h b (omega arith)) (after-joined all some l a b (λ j g. h j (omega arith))) ∙ ap (log_after nv w rules all l) (sym (add-suc a b))

  pub after_same : (one other : List ℕ) (l : Log) (n : ℕ) → ((j : ℕ) → j < n → part_at nv one j ≡ part_at nv other j) → log_after nv w rules one l n ≡ log_after nv w rules other l n
  unfolding log_after
  after_same one other l zero h = refl
  after_same one other l (suc n) h = ap₂ (stepped nv w rules) (h n (omega arith)) (after_same one other l n (λ j g. h j (omega arith)))

  -- ---- rule by rule
  module _ (few : rules.count ≤ 8) (records : List ℕ) (l : Log) (begun : l.begun ≡ true) where
    abbrev rank : ℕ → ℕ
    rank k = rank_at nv w rules records l.windows rules.count k

    -- what a window has seen after n records
    pub after-window : (n i : ℕ) → i < 8 → get_or (log_after nv w rules records l n).windows i 0 ≡ window_at nv w rules records l.windows rules.count n i
    unfolding log_after past_at
    after-window zero i h = sym (either (ltb i rules.count))
      where
        either : (b : Bool) → cond b (get_or l.windows i 0) (get_or l.windows i 0) ≡ get_or l.windows i 0
        either true = refl
        either false = refl
    after-window (suc n) i h =
        let x : List ℕ = part_at nv records n in
        let before : Log = log_after nv w rules records l n in
        ap (λ (y : Log). get_or y.windows i 0) (step_open x before (after-begun records l begun n))
        ∙ eight (λ (j : ℕ). cond (ltb j rules.count) (seen nv w (rule_at rules j) x (get_or before.windows j 0)) (get_or before.windows j 0)) i h
        ∙ ap (λ (s : ℕ). cond (ltb i rules.count) (seen nv w (rule_at rules i) x s) s) (after-window n i h)
        ∙ more (ltb i rules.count) (seen nv w (rule_at rules i) x) (past_at nv w (rule_at rules i) records (get_or l.windows i 0) n)
      where
        more : (b : Bool) (f : ℕ → ℕ) (p : ℕ) → cond b (f (cond b p (get_or l.windows i 0))) (cond b p (get_or l.windows i 0)) ≡ cond b (f p) (get_or l.windows i 0)
        more true f p = refl
        more false f p = refl

    -- of a rule's place
    after-past : (n i : ℕ) → i < rules.count → get_or (log_after nv w rules records l n).windows i 0 ≡ past_at nv w (rule_at rules i) records (get_or l.windows i 0) n
    after-past n i h = after-window n i (omega arith) ∙ ap (λ (b : Bool). cond b (past_at nv w (rule_at rules i) records (get_or l.windows i 0) n) (get_or l.windows i 0)) (lt-ltb i rules.count h)

    -- the least rank that fires
    pub after-rank : (n : ℕ) → rank_on nv w rules (part_at nv records n) (log_after nv w rules records l n).windows ≡ rank n
    unfolding fires_on
    after-rank n = rank_same rules rules.count _ _ (λ i h. ap (fires nv w (rule_at rules i) (part_at nv records n)) (after-past n i h))

    pub after-shown : (n : ℕ) → (log_after nv w rules records l n).shown ≡ noted_over rank l.shown n
    unfolding log_after noted_over
    after-shown zero = refl
    after-shown (suc n) =
        ap (λ (y : Log). y.shown) (step_open (part_at nv records n) (log_after nv w rules records l n) (after-begun records l begun n)) ∙ ap₂ noted (after-rank n) (after-shown n)

    after-windows : (n : ℕ) → (log_after nv w rules records l (suc n)).windows ≡ map (window_at nv w rules records l.windows rules.count (suc n)) (count_up 0 8)
    unfolding log_after
    after-windows n =
        let e = ap (λ (y : Log). y.windows) (step_open (part_at nv records n) (log_after nv w rules records l n) (after-begun records l begun n)) in
        windows-are (window_at nv w rules records l.windows rules.count (suc n)) (log_after nv w rules records l (suc n)).windows
        (ap length e ∙ length-map (count_up 0 8) (λ (i : ℕ). cond (ltb i rules.count) (seen nv w (rule_at rules i) (part_at nv records n) (get_or (log_after nv w rules records l n).windows i 0)) (get_or (log_after nv w rules records l n).windows i 0)) ∙ length-count 0 8)
        (after-window (suc n))

    -- what the steps of a run leave is the log after its records
    pub after_is : (n : ℕ) → 1 ≤ n → (fired after : List ℕ) → length after ≡ 8
        → ((i : ℕ) → i < 8 → get_or after i 0 ≡ window_at nv w rules records l.windows rules.count n i)
        → ((k : ℕ) → k < n → get_or fired k 0 ≡ rank k)
        → (shown : Shown) → shown ≡ noted_over (λ (k : ℕ). get_or fired k 0) l.shown n
        → ◌≡◌ {A = Log} (record { begun = true; shown = shown; windows = after }) (log_after nv w rules records l n)
    after_is zero h fired after long ew er shown es = absurd (omega arith)
    after_is (suc n) h fired after long ew er shown es =
        let a : true ≡ (log_after nv w rules records l (suc n)).begun = sym (after-begun records l begun (suc n)) in
        let b : shown ≡ (log_after nv w rules records l (suc n)).shown = es ∙ noted-same (λ (k : ℕ). get_or fired k 0) rank l.shown (suc n) er ∙ sym (after-shown (suc n)) in
        let c : after ≡ (log_after nv w rules records l (suc n)).windows = windows-are (window_at nv w rules records l.windows rules.count (suc n)) after long ew ∙ sym (after-windows n) in
        λ i. record { begun = a i; shown = b i; windows = c i }

-- ---- the answer
-- what a run of n records answers where only the rules themselves are still to be tested
abbrev pub ruled : ℕ → ℕ → Rules → Log → ℕ → List ℕ → Reply
ruled nv w rules l n records = record {
  refusal = formulas_refusal nv rules rules.count;
  log = unless_refused (formulas_refusal nv rules rules.count) (log_after nv w rules records l n) l;
}

module _ (nv w : ℕ) (rules : Rules) (l : Log) (n : ℕ) (records : List ℕ) where
  abbrev number : ℕ
  number = formulas_refusal nv rules rules.count

  pub ruled-refused : (x : ℕ) → x ≡ number → (x ≡ 0 → ⊥) → ◌≡◌ {A = Reply} (record { refusal = x; log = l }) (ruled nv w rules l n records)
  ruled-refused x e h =
      let same : l ≡ unless_refused number (log_after nv w rules records l n) l = sym (unless_refused_lem number (log_after nv w rules records l n) l (omega (arith, e, h))) in
      λ i. record { refusal = e i; log = same i }

  pub ruled-ran : (after : Log) → number ≡ 0 → after ≡ log_after nv w rules records l n → ◌≡◌ {A = Reply} (record { refusal = 0; log = after }) (ruled nv w rules l n records)
  ruled-ran after e h =
      let same : after ≡ unless_refused number (log_after nv w rules records l n) l = h ∙ sym (unless_not number (log_after nv w rules records l n) l e) in
      λ i. record { refusal = sym e i; log = same i }

-- ---- records a to a + b - 1
pub fits_part : (s a b n long : ℕ) → a + b ≤ n → s * n ≤ long → s * a + s * b ≤ long
fits_part s a b n long h g = omega (arith, mul-le-mul_left s h, mul-add s a b)

pub lends_part : (nv w : ℕ) (rules : Rules) (n : ℕ) (records : List ℕ) (a b : ℕ) → a + b ≤ n → Lends nv w rules n records
    → Lends nv w rules b (take (nv * a + nv * b - nv * a) (drop (nv * a) records))
lends_part nv w rules n records a b h l =
    let f = fits_part nv a b n (length records) h l.fits in
    record {
      some = l.some;
      few = l.few;
      wide = l.wide;
      narrow = l.narrow;
      ranks = l.ranks;
      ms = l.ms;
      windows = l.windows;
      counts = l.counts;
      ops = l.ops;
      operands = l.operands;
      fits = omega (arith, length-take-le (nv * a + nv * b - nv * a) (drop (nv * a) records) (omega (arith, length-drop (nv * a) records, f)), f);
    }

-- ---- the call
module _ (nv w : ℕ) (rules : Rules) (l : Log) (n : ℕ) (records : List ℕ) where
  -- a number that applies, and the log as it was
  logged-refused : (x : ℕ) → x ≡ log_refusal nv w rules n records → (x ≡ 0 → ⊥) → ◌≡◌ {A = Reply} (record { refusal = x; log = l }) (logged nv w rules l n records)
  logged-refused x e h =
      let same : l ≡ unless_refused (log_refusal nv w rules n records) (log_after nv w rules records l n) l = sym (unless_refused_lem (log_refusal nv w rules n records) (log_after nv w rules records l n) l (omega (arith, e, h))) in
      λ i. record { refusal = e i; log = same i }

  pub logged_lent : (x : ℕ) → x ≡ lent_refusal nv w rules n records → (x ≡ 0 → ⊥) → ◌≡◌ {A = Reply} (record { refusal = x; log = l }) (logged nv w rules l n records)
  logged_lent x e h = logged-refused x (e ∙ sym (refusal_lent nv w rules n records (omega (arith, e, h)))) h

  module _ (lent : lent_refusal nv w rules n records ≡ 0) where
    pub logged-ran : bad_ranks rules.count rules.ranks ≡ false → ruled nv w rules l n records ≡ logged nv w rules l n records
    logged-ran e =
        let same : formulas_refusal nv rules rules.count ≡ log_refusal nv w rules n records = sym (refusal_rules nv w rules n records lent ∙ rules_formulas nv rules e) in
        λ i. record { refusal = same i; log = unless_refused (same i) (log_after nv w rules records l n) l }

    -- no record to take
    stays : (l.begun && (ltb 0 n && not (bad_ranks rules.count rules.ranks))) ≡ false → bad_ranks rules.count rules.ranks ≡ false → log_after nv w rules records l n ≡ l
    stays e b = elim (bool_cases l.begun) [
      | inr o ↦ after-shut nv w rules records l o n
      | inl y ↦
          let none : n ≡ 0 = nothing (bool_cases (ltb 0 n)) y in
          ap (log_after nv w rules records l) none ∙ after_none nv w rules records l
    ]
      where
        nothing : (ltb 0 n ≡ true) ⊎ (ltb 0 n ≡ false) → l.begun ≡ true → n ≡ 0
        nothing (inl t) y = absurd (true_not_false (sym (and_both y (and_both t (ap not b))) ∙ e))
        nothing (inr f) y = omega (arith, ltb-false 0 n f)

    pub logged_tested : (l.begun && (ltb 0 n && not (bad_ranks rules.count rules.ranks))) ≡ false → (x : ℕ) → x ≡ rules_refusal nv rules
        → ◌≡◌ {A = Reply} (record { refusal = x; log = l }) (logged nv w rules l n records)
    logged_tested e x h = elim (eq-zero-or-pos x) [
      | inr p ↦ logged-refused x (h ∙ sym (refusal_rules nv w rules n records lent)) (λ z. omega (arith, p, z))
      | inl z ↦
          let number : x ≡ log_refusal nv w rules n records = h ∙ sym (refusal_rules nv w rules n records lent) in
          let same : l ≡ unless_refused (log_refusal nv w rules n records) (log_after nv w rules records l n) l =
          sym (unless_not (log_refusal nv w rules n records) (log_after nv w rules records l n) l (sym number ∙ z) ∙ stays e (rules_ranks nv rules (sym h ∙ z))) in
          λ i. record { refusal = number i; log = same i }
    ]

-- a log whose sounding is open, by its parts
pub open_is : (l : Log) → l.begun ≡ true → open_log l.windows l.shown ≡ l
open_is l e = λ i. record { windows = l.windows; shown = l.shown; begun = sym e i }

-- ---- what was taken, as the call's answer
module _ (l : Log) (after : List ℕ) (x : Took) where
  abbrev whole : Log
  whole = record { windows = after; shown = x.shown; begun = l.begun }

  pub took_refused : (x.refusal ≡ 0 → ⊥) → ◌≡◌ {A = Reply} (record { refusal = x.refusal; log = l }) (took_says l after x)
  took_refused h = let same = sym (unless_refused_lem x.refusal whole l (omega (arith, h))) in λ i. record { refusal = x.refusal; log = same i }

  pub took_whole : x.refusal ≡ 0 → ◌≡◌ {A = Reply} (record { refusal = 0; log = record { windows = after; shown = x.shown; begun = l.begun } }) (took_says l after x)
  took_whole z = let same = sym (unless_not x.refusal whole l z) in λ i. record { refusal = sym z i; log = same i }

  pub took_ruled : (nv w : ℕ) (rules : Rules) (n : ℕ) (records : List ℕ) → l.begun ≡ true → Takes nv w rules records n l.windows l.shown after x → took_says l after x ≡ ruled nv w rules l n records
  took_ruled nv w rules n records b t = elim (eq-zero-or-pos x.refusal) [
    | inr p ↦ let h : x.refusal ≡ 0 → ⊥ = (λ z. omega (arith, p, z)) in sym (took_refused h) ∙ ruled-refused nv w rules l n records x.refusal t.number h
    | inl z ↦
        sym (took_whole z)
        ∙ ruled-ran nv w rules l n records whole (sym t.number ∙ z) ((λ i. record { windows = after; shown = x.shown; begun = b i }) ∙ t.log z ∙ ap (λ (y : Log). log_after nv w rules records y n) (open_is l b))
  ]

-- nothing was
pub took_none : (l : Log) (number : ℕ) → ◌≡◌ {A = Reply} (record { refusal = number; log = l }) (took_says l l.windows (record { shown = l.shown; refusal = number }))
took_none l number = elim (eq-zero-or-pos number) [
  | inr p ↦ took_refused l l.windows (record { shown = l.shown; refusal = number }) (λ z. omega (arith, p, z))
  | inl z ↦ let same = sym (unless_not number l l z) in λ i. record { refusal = number; log = same i }
]
