-- The log after a run is that of its last sounding. Assumes nothing.
use mathlib.Core.Path.{◌≡◌, refl, sym, ap, ◌∙◌, subst}
use mathlib.Core.Logic.{inl, inr}
use mathlib.Core.Bool.{Bool, true, false, cond}
use mathlib.Core.List.{List, [], ◌∷◌, ◌++◌, append-nil}
use Prim.Native.Nat.{ℕ, ◌+◌, ◌*◌, ◌≤◌, ◌<◌}
use native.Mathlib.Nat.{eq-zero-or-pos, mul-add, mul-zero}
use native.Mathlib.Omega.{arith}
use lib.Dec.{ltb}
use lib.ListN.{length, take, length-append}
use lib.Seq.{length-take-le}
use Rattle.arrays.proofs.Lists.{bool_cases}
use Rattle.arrays.proofs.Parts.{part_first, part_later}
use Rattle.limits.specs.Refusal.{unless_refused}
use Rattle.limits.proofs.Refusals.{true_not_false, unless_refused_lem, unless_not}
use Rattle.log_rules.specs.Rules.{Rules, log_refusal}
use Rattle.log_rules.proofs.Tests.{refusal-none, refusal_other, lends}
use Rattle.log_run.specs.declared.Log.{Log}
use Rattle.log_run.specs.Step.{log_after, empty_log, opened}
use Rattle.log_run.specs.Facts.{Event, Event.opening, Event.feeding, Sounding, no_sounding, new_sounding, log_on, log_over, taken, sounding_on, sounding_over, LastSounding}
use Rattle.log_run.proofs.Stepping.{after_none, after-shut, after-joined, after_same}

module _ (nv w : ℕ) (rules : Rules) where
  -- the log of a sounding
  abbrev pub log_at : Sounding → Log
  log_at s = cond s.begun (log_after nv w rules s.records (opened empty_log) s.n) empty_log

  -- a sounding, and the log after it
  pub record Kept (s : Sounding) (l : Log) : Type 0 where
    pub long : length s.records ≡ nv * s.n
    pub fit : 0 < s.n → (k : ℕ) (xs : List ℕ) → nv * k ≤ length xs → log_refusal nv w rules k xs ≡ 0
    pub idle : s.begun ≡ false → s.n ≡ 0
    pub is : l ≡ log_at s

  kept_at : {s t : Sounding} {l : Log} → s ≡ t → Kept s l → Kept t l
  kept_at {s} {t} {l} e k = subst (λ (x : Sounding). Kept x l) e k

  pub kept-none : Kept no_sounding empty_log
  kept-none = record { long = sym (mul-zero nv); fit = λ h. absurd (omega arith); idle = λ e. refl; is = refl }

  pub kept_new : (l : Log) → Kept new_sounding (opened l)
  kept_new l = record { long = sym (mul-zero nv); fit = λ h. absurd (omega arith); idle = λ e. refl; is = sym (after_none nv w rules [] (opened empty_log)) }

  -- ---- one call
  module _ (s : Sounding) (l : Log) (kept : Kept s l) (n : ℕ) (xs : List ℕ) where
    abbrev number : ℕ
    number = log_refusal nv w rules n xs

    abbrev longer : ℕ → Sounding
    longer t = record { begun = true; n = s.n + t; records = s.records ++ take (nv * t) xs }

    -- it takes none
    none-taken : taken nv w rules n xs ≡ 0 → sounding_on nv w rules (feeding n xs) s ≡ s
    unfolding sounding_on
    none-taken e = elim (bool_cases s.begun) [
      | inr o ↦ ap (λ (b : Bool). cond b (longer (taken nv w rules n xs)) s) o
      | inl y ↦
          let count : s.n + taken nv w rules n xs ≡ s.n = omega (arith, e) in
          let words : s.records ++ take (nv * taken nv w rules n xs) xs ≡ s.records =
          ap (λ (k : ℕ). s.records ++ take k xs) (ap (λ (t : ℕ). nv * t) e ∙ mul-zero nv) ∙ append-nil s.records in
          ap (λ (b : Bool). cond b (longer (taken nv w rules n xs)) s) y ∙ (λ i. record { begun = sym y i; n = count i; records = words i })
    ]

    moved : {t : Sounding} {k : Log} → t ≡ s → k ≡ l → Kept t k
    moved {t} {k} et ek = record {
      long = ap (λ (x : Sounding). length x.records) et ∙ kept.long ∙ sym (ap (λ (x : Sounding). nv * x.n) et);
      fit = λ h. kept.fit (omega (arith, h, ap (λ (x : Sounding). x.n) et));
      idle = λ e. ap (λ (x : Sounding). x.n) et ∙ kept.idle (sym (ap (λ (x : Sounding). x.begun) et) ∙ e);
      is = ek ∙ kept.is ∙ ap log_at (sym et);
    }

    kept-refused : 0 < number → Kept (sounding_on nv w rules (feeding n xs) s) (log_on nv w rules (feeding n xs) l)
    kept-refused p = moved (none-taken (unless_refused_lem number n 0 p)) (unless_refused_lem number (log_after nv w rules xs l n) l p)

    -- it takes all
    module _ (e : number ≡ 0) where
      all : taken nv w rules n xs ≡ n
      all = unless_not number n 0 e

      after : log_on nv w rules (feeding n xs) l ≡ log_after nv w rules xs l n
      after = unless_not number (log_after nv w rules xs l n) l e

      fits : nv * n ≤ length xs
      fits = (lends nv w rules n xs (refusal-none nv w rules n xs e).0).fits

      kept-shut : s.begun ≡ false → Kept (sounding_on nv w rules (feeding n xs) s) (log_on nv w rules (feeding n xs) l)
      unfolding sounding_on
      kept-shut o =
          let shut : l.begun ≡ false = ap (λ (x : Log). x.begun) (kept.is ∙ ap (λ (b : Bool). cond b (log_after nv w rules s.records (opened empty_log) s.n) empty_log) o) in
          moved (ap (λ (b : Bool). cond b (longer (taken nv w rules n xs)) s) o) (after ∙ after-shut nv w rules xs l shut n)

      kept_open : s.begun ≡ true → Kept (longer n) (log_on nv w rules (feeding n xs) l)
      kept_open y =
          let now : l ≡ log_after nv w rules s.records (opened empty_log) s.n = kept.is ∙ ap (λ (b : Bool). cond b (log_after nv w rules s.records (opened empty_log) s.n) empty_log) y in
          let whole : List ℕ = s.records ++ take (nv * n) xs in
          let first : log_after nv w rules s.records (opened empty_log) s.n ≡ log_after nv w rules whole (opened empty_log) s.n =
          sym (after_same nv w rules whole s.records (opened empty_log) s.n (part_first nv s.records s.n kept.long (take (nv * n) xs))) in
          record {
            long = length-append s.records (take (nv * n) xs) ∙ omega (arith, kept.long, length-take-le (nv * n) xs fits, mul-add nv s.n n);
            fit = λ h. refusal_other nv w rules n xs e;
            idle = λ o. absurd (true_not_false o);
            is =
                after
                ∙ ap (λ (x : Log). log_after nv w rules xs x n) (now ∙ first)
                ∙ after-joined nv w rules whole xs (opened empty_log) s.n n (part_later nv s.records s.n kept.long xs n fits);
          }

      kept-taken : Kept (sounding_on nv w rules (feeding n xs) s) (log_on nv w rules (feeding n xs) l)
      unfolding sounding_on
      kept-taken = elim (bool_cases s.begun) [
        | inr o ↦ kept-shut o
        | inl y ↦ kept_at (ap (λ (t : ℕ). longer t) (sym all) ∙ ap (λ (b : Bool). cond b (longer (taken nv w rules n xs)) s) (sym y)) (kept_open y)
      ]

  pub kept_on : (e : Event) (s : Sounding) (l : Log) → Kept s l → Kept (sounding_on nv w rules e s) (log_on nv w rules e l)
  unfolding sounding_on
  kept_on opening s l k = kept_new l
  kept_on (feeding n xs) s l k = elim (eq-zero-or-pos (log_refusal nv w rules n xs)) [ inl e ↦ kept-taken s l k n xs e | inr p ↦ kept-refused s l k n xs p ]

  pub kept_over : (run : List Event) (s : Sounding) (l : Log) → Kept s l → Kept (sounding_over nv w rules run s) (log_over nv w rules run l)
  unfolding sounding_over log_over
  kept_over [] s l k = k
  kept_over (e ∷ more) s l k = kept_over more (sounding_on nv w rules e s) (log_on nv w rules e l) (kept_on e s l k)

  -- ---- in one call
  in_one : (s : Sounding) (l : Log) → Kept s l → log_over nv w rules (opening ∷ (feeding s.n s.records ∷ [])) empty_log ≡ log_after nv w rules s.records (opened empty_log) s.n
  unfolding log_over
  in_one s l k = elim (eq-zero-or-pos s.n) [
    | inr p ↦ unless_not (log_refusal nv w rules s.n s.records) (log_after nv w rules s.records (opened empty_log) s.n) (opened empty_log) (k.fit p s.n s.records (omega (arith, k.long)))
    | inl z ↦
        let none : log_after nv w rules s.records (opened empty_log) s.n ≡ opened empty_log = ap (log_after nv w rules s.records (opened empty_log)) z ∙ after_none nv w rules s.records (opened empty_log) in
        ap (λ (x : Log). unless_refused (log_refusal nv w rules s.n s.records) x (opened empty_log)) none ∙ either (ltb 0 (log_refusal nv w rules s.n s.records)) ∙ sym none
  ]
    where
      either : (b : Bool) → ◌≡◌ {A = Log} (cond b (opened empty_log) (opened empty_log)) (opened empty_log)
      either true = refl
      either false = refl

  pub last_sounding : LastSounding nv w rules
  last_sounding run =
      let s = sounding_over nv w rules run no_sounding in
      let k = kept_over run no_sounding empty_log kept-none in
      k.is ∙ ap (λ (x : Log). cond s.begun x empty_log) (sym (in_one s (log_over nv w rules run empty_log) k))
