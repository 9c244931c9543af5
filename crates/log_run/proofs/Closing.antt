-- What the log shows of a sounding, and that it is closed once. Assumes nothing.
use mathlib.Core.Path.{◌≡◌, refl, sym, ap, ap₂, ◌∙◌, subst}
use mathlib.Core.Logic.{◌⊎◌, inl, inr}
use mathlib.Core.Bool.{Bool, true, false, cond, ◌&&◌}
use mathlib.Core.List.{List, [], ◌∷◌, ◌++◌}
use Prim.Native.Nat.{ℕ, zero, suc, ◌+◌, ◌-◌, ◌*◌, ◌^◌, ◌≤◌, ◌<◌}
use native.Mathlib.Nat.{eq-zero-or-pos, add-zero, zero-add}
use native.Mathlib.Numerals.{add-one}
use native.Mathlib.Omega.{arith}
use borrow.Author.Tests.{ltb-true, ltb-false, lt-ltb, le-ltb, eq-eqb, ne_eqb}
use lib.Dec.{ltb, eqb}
use lib.ListN.{length, get_or, get_or-replicate}
use lib.Seq.{take_all}
use Rattle.arrays.specs.Parts.{part_at}
use Rattle.arrays.proofs.Lists.{bool_cases}
use Rattle.arrays.proofs.Parts.{length-part, part_within}
use Rattle.limits.proofs.Refusals.{true_not_false, le_or_lt, and_both, inside, unless_refused_lem, unless_not}
use Rattle.rule_run.specs.Window.{sum_below}
use Rattle.rule_run.proofs.Counting.{sum_same}
use Rattle.log_rules.specs.Rules.{Rules, rank_of, rule_at, bad_ranks, log_refusal}
use Rattle.log_rules.specs.Firing.{no_rank, least_rank}
use Rattle.log_rules.specs.Steps.{Lends, fires_on, rank_at}
use Rattle.log_rules.proofs.Tests.{any_at, any_none, none_below, any_first, refusal-none, lends, ranked, rules_ranks, rules_formulas, number-each, ranks-differ, rank_same, rank-least, lesser-left, lesser-right}
use Rattle.log_rules.proofs.Singles.{Sound, fires_fresh}
use Rattle.log_run.specs.declared.Shown.{Shown}
use Rattle.log_run.specs.declared.Log.{Log}
use Rattle.log_run.specs.Step.{capped, noted, rank_on, stepped, log_after, nothing_shown, fresh_windows, empty_log, opened}
use Rattle.log_run.specs.Steps.{noted_over}
use Rattle.log_run.specs.Facts.{Event, Event.opening, Event.feeding, Sounding, no_sounding, new_sounding, goes_on, log_on, log_over, sounding_over, fires_in, some_fires, ever_fires, later_firings, Least, Shows, ShowsClose, FirstFires, Unaltered, same_close, close_changes, ClosedOnce, SmallerRank}
use Rattle.log_run.proofs.Stepping.{capped-low, capped-high, noted-none, noted_close, noted-later, step-shut, step_open, after-begun, after-shown}
use Rattle.log_run.proofs.Soundings.{Kept, kept-none, kept_new, kept_over}

-- ---- counting up to 2^64 - 1
capped-more : (m : ℕ) → capped (suc (capped m)) ≡ capped (suc m)
capped-more m = elim (le_or_lt (2 ^ 64) m) [
  | inl h ↦ ap (λ (k : ℕ). capped (suc k)) (capped-high m h) ∙ capped-high (suc (2 ^ 64 - 1)) (omega arith) ∙ sym (capped-high (suc m) (omega arith))
  | inr h ↦ ap (λ (k : ℕ). capped (suc k)) (capped-low m h)
]

pub capped-some : (m : ℕ) → 0 < capped (suc m)
capped-some m = elim (le_or_lt (2 ^ 64) (suc m)) [ inl h ↦ omega (arith, capped-high (suc m) h) | inr h ↦ omega (arith, capped-low (suc m) h) ]

-- ---- one record more
-- of a close that is shown
noted-closed : (rank : ℕ) (s : Shown) → (s.close ≡ 0 → ⊥) → ((noted rank s).close ≡ s.close) × ((noted rank s).rank ≡ s.rank)
noted-closed rank s h = elim (le_or_lt no_rank rank) [
  | inl a ↦ let e = sym (noted-none rank s (capped (suc s.number)) refl a) in (ap (λ (x : Shown). x.close) e, ap (λ (x : Shown). x.rank) e)
  | inr b ↦ let e = sym (noted-later rank s (capped (suc s.number)) refl b h (capped (suc s.later)) refl) in (ap (λ (x : Shown). x.close) e, ap (λ (x : Shown). x.rank) e)
]

-- no close is shown
abbrev Unclosed : Shown → Type 0
Unclosed s = (s.close ≡ 0) × (s.rank ≡ 0)

noted-unclosed : (rank : ℕ) (s : Shown) → Unclosed s → Unclosed (noted rank s) ⊎ (0 < (noted rank s).close)
noted-unclosed rank s u = elim (le_or_lt no_rank rank) [
  | inl a ↦ let e = sym (noted-none rank s (capped (suc s.number)) refl a) in inl (ap (λ (x : Shown). x.close) e ∙ u.0, ap (λ (x : Shown). x.rank) e ∙ u.1)
  | inr b ↦ let e = sym (noted_close rank s (capped (suc s.number)) refl b u.0) in inr (omega (arith, capped-some s.number, ap (λ (x : Shown). x.close) e))
]

-- ---- what is shown, by the ranks alone
module _ (rank : ℕ → ℕ) where
  abbrev fire : ℕ → Bool
  fire k = ltb (rank k) no_rank

  abbrev after : ℕ → Shown
  after n = noted_over rank nothing_shown n

  one_more : (n : ℕ) → after (suc n) ≡ noted (rank n) (after n)
  unfolding noted_over
  one_more n = refl

  shown-number : (n : ℕ) → (after n).number ≡ capped n
  unfolding noted_over
  shown-number zero = sym (capped-low 0 (omega arith))
  shown-number (suc n) = ap (λ (m : ℕ). capped (suc m)) (shown-number n) ∙ capped-more n

  -- a record without a firing
  quiet : (n : ℕ) → fire n ≡ false → after (suc n) ≡ record { number = capped (suc (after n).number); close = (after n).close; rank = (after n).rank; later = (after n).later }
  quiet n e = one_more n ∙ sym (noted-none (rank n) (after n) (capped (suc (after n).number)) refl (ltb-false (rank n) no_rank e))

  pub shown-none : (n : ℕ) → ((k : ℕ) → k < n → fire k ≡ false) → ((after n).close ≡ 0) × (((after n).rank ≡ 0) × ((after n).later ≡ 0))
  unfolding noted_over
  shown-none zero h = (refl, (refl, refl))
  shown-none (suc n) h =
      let q = quiet n (h n (omega arith)) in
      let r = shown-none n (λ k l. h k (omega arith)) in
      (ap (λ (s : Shown). s.close) q ∙ r.0, (ap (λ (s : Shown). s.rank) q ∙ r.1.0, ap (λ (s : Shown). s.later) q ∙ r.1.1))

  -- the first record with a firing is k
  module _ (k : ℕ) (fires : fire k ≡ true) (before : (j : ℕ) → j < k → fire j ≡ false) where
    abbrev count : ℕ → ℕ
    count n = sum_below n (λ (j : ℕ). cond (ltb k j && fire j) 1 0)

    pub record Closed (n : ℕ) : Type 0 where
      pub close : (after n).close ≡ capped (suc k)
      pub rank-shown : (after n).rank ≡ rank k
      pub later : (after n).later ≡ capped (count n)

    -- no later record was counted
    count_none : (n : ℕ) → n ≤ suc k → count n ≡ 0
    unfolding sum_below
    count_none zero h = refl
    count_none (suc n) h = ap₂ (λ (x y : ℕ). x + y) (count_none n (omega arith)) (ap (λ (b : Bool). cond (b && fire n) 1 0) (le-ltb k n (omega arith)))

    closing : Closed (suc k)
    closing =
        let r = shown-none k before in
        let c = one_more k ∙ sym (noted_close (rank k) (after k) (capped (suc (after k).number)) refl (ltb-true (rank k) no_rank fires) r.0) in
        record {
          close = ap (λ (s : Shown). s.close) c ∙ ap (λ (m : ℕ). capped (suc m)) (shown-number k) ∙ capped-more k;
          rank-shown = ap (λ (s : Shown). s.rank) c;
          later = ap (λ (s : Shown). s.later) c ∙ r.1.1 ∙ sym (ap capped (count_none (suc k) (omega arith)) ∙ capped-low 0 (omega arith));
        }

    -- a later record
    counted : (n : ℕ) (b : Bool) → k < n → fire n ≡ b → count (suc n) ≡ count n + cond b 1 0
    unfolding sum_below
    counted n b h e = ap₂ (λ (x y : Bool). count n + cond (x && y) 1 0) (lt-ltb k n h) e

    later_record : (n : ℕ) → k < n → Closed n → Closed (suc n)
    later_record n h c = elim (bool_cases (fire n)) [
      | inr o ↦
          let q = quiet n o in
          let same : count (suc n) ≡ count n = counted n false h o ∙ add-zero (count n) in
          record {
            close = ap (λ (s : Shown). s.close) q ∙ c.close;
            rank-shown = ap (λ (s : Shown). s.rank) q ∙ c.rank-shown;
            later = ap (λ (s : Shown). s.later) q ∙ c.later ∙ ap capped (sym same);
          }
      | inl y ↦
          let shut : (after n).close ≡ 0 → ⊥ = λ z. omega (arith, capped-some k, c.close, z) in
          let more : count (suc n) ≡ suc (count n) = counted n true h y ∙ add-one (count n) in
          let q = one_more n ∙ sym (noted-later (rank n) (after n) (capped (suc (after n).number)) refl (ltb-true (rank n) no_rank y) shut (capped (suc (after n).later)) refl) in
          record {
            close = ap (λ (s : Shown). s.close) q ∙ c.close;
            rank-shown = ap (λ (s : Shown). s.rank) q ∙ c.rank-shown;
            later = ap (λ (s : Shown). s.later) q ∙ ap (λ (m : ℕ). capped (suc m)) c.later ∙ capped-more (count n) ∙ ap capped (sym more);
          }
    ]

    pub shown-first : (n : ℕ) → k < n → Closed n
    shown-first zero h = absurd (omega arith)
    shown-first (suc n) h = elim (le_or_lt n k) [
      | inl a ↦ subst Closed (omega (arith, a, h)) closing
      | inr b ↦ later_record n b (shown-first n b)
    ]

-- ---- the rules of a sounding
module _ (nv w : ℕ) (rules : Rules) where
  -- what a sounding with a record says of the rules
  module _ (s : Sounding) (long : length s.records ≡ nv * s.n) (none : log_refusal nv w rules s.n s.records ≡ 0) where
    lent : Lends nv w rules s.n s.records
    lent = lends nv w rules s.n s.records (refusal-none nv w rules s.n s.records none).0

    good : bad_ranks rules.count rules.ranks ≡ false
    good = rules_ranks nv rules (refusal-none nv w rules s.n s.records none).1

    sound : (i : ℕ) → i < rules.count → Sound nv w (rule_at rules i)
    sound i h = record {
      vars = inside 1 6 nv lent.some lent.few;
      width = inside 1 64 w lent.wide lent.narrow;
      ops = length-part 64 rules.ops i (omega (arith, part_within 64 i rules.count h, lent.ops));
      operands = length-part 64 rules.operands i (omega (arith, part_within 64 i rules.count h, lent.operands));
      number = number-each nv rules rules.count (sym (rules_formulas nv rules good) ∙ (refusal-none nv w rules s.n s.records none).1) i h;
    }

    -- the rank at record k is the least of the rules that fire there by a fresh count
    fresh : (k : ℕ) → k < s.n → (i : ℕ) → i < rules.count → fires_on nv w (rule_at rules i) s.records (get_or fresh_windows i 0) k ≡ fires_in nv w rules s i k
    fresh k h i l =
        let zero_seen : get_or fresh_windows i 0 ≡ 0 = get_or-replicate 8 i 0 0 (omega (arith, l, (ranked rules good).few)) in
        ap (λ (x : ℕ). fires_on nv w (rule_at rules i) s.records x k) zero_seen
        ∙ fires_fresh nv w (rule_at rules i) (sound i l) s.records s.n (omega (arith, long)) k h
        ∙ ap (λ (x : List ℕ). fires_in nv w rules (record { begun = s.begun; n = s.n; records = x }) i k) (take_all (nv * s.n) s.records (omega (arith, long)))

    rank_is : (k : ℕ) → k < s.n → rank_at nv w rules s.records fresh_windows rules.count k ≡ least_rank rules rules.count (λ (i : ℕ). fires_in nv w rules s i k)
    rank_is k h = rank_same rules rules.count _ _ (fresh k h)

    -- it is below `no_rank` exactly if some rule fires, and then the least
    rank-fires : (k : ℕ) → k < s.n → ltb (rank_at nv w rules s.records fresh_windows rules.count k) no_rank ≡ some_fires nv w rules s k
    rank-fires k h =
        ap (λ (r : ℕ). ltb r no_rank) (rank_is k h)
        ∙ elim (rank-least rules (λ (i : ℕ). fires_in nv w rules s i k) rules.count (ranked rules good).most) [
          | inl x ↦ ap (λ (r : ℕ). ltb r no_rank) x.1 ∙ sym (any_none (λ (i : ℕ). fires_in nv w rules s i k) rules.count x.0)
          | inr x ↦
              lt-ltb (least_rank rules rules.count (λ (i : ℕ). fires_in nv w rules s i k)) no_rank (omega (arith, x.is, (ranked rules good).most x.place x.among)) ∙ sym (any_at (λ (i : ℕ). fires_in nv w rules s i k) rules.count x.place x.among x.passes)
        ]

    rank-least-is : (k r : ℕ) → k < s.n → some_fires nv w rules s k ≡ true → r ≡ rank_at nv w rules s.records fresh_windows rules.count k → Least nv w rules s k r
    rank-least-is k r h e q = elim (rank-least rules (λ (i : ℕ). fires_in nv w rules s i k) rules.count (ranked rules good).most) [
      | inl x ↦ absurd (true_not_false (sym e ∙ any_none (λ (i : ℕ). fires_in nv w rules s i k) rules.count x.0))
      | inr x ↦
          let is : rank_of rules x.place ≡ r = x.is ∙ sym (q ∙ rank_is k h) in
          record {
            place = x.place;
            among = x.among;
            fires = x.passes;
            is = is;
            low = omega (arith, is, (ranked rules good).least x.place x.among);
            high = omega (arith, is, (ranked rules good).most x.place x.among);
            no_less = λ i l t. omega (arith, x.no_less i l t, q ∙ rank_is k h);
          }
    ]

    -- ---- what is shown
    abbrev rank : ℕ → ℕ
    rank k = rank_at nv w rules s.records fresh_windows rules.count k

    module _ (l : Log) (is : l ≡ log_after nv w rules s.records (opened empty_log) s.n) where
      shown : l.shown ≡ noted_over rank nothing_shown s.n
      shown = ap (λ (x : Log). x.shown) is ∙ after-shown nv w rules (ranked rules good).few s.records (opened empty_log) refl s.n

      shows_fires : s.begun ≡ true → Shows nv w rules s l
      shows_fires y = record {
        begun = ap (λ (x : Log). x.begun) is ∙ after-begun nv w rules s.records (opened empty_log) refl s.n ∙ sym y;
        number = ap (λ (x : Shown). x.number) shown ∙ shown-number rank s.n;
        closed = λ k f.
            let c = shown-first rank k (rank-fires k f.within ∙ f.fires) (λ j h. rank-fires j (omega (arith, h, f.within)) ∙ f.before j h) s.n f.within in (
              ap (λ (x : Shown). x.close) shown ∙ c.close,
              (
                rank-least-is k l.shown.rank f.within f.fires (ap (λ (x : Shown). x.rank) shown ∙ c.rank-shown),
                ap (λ (x : Shown). x.later) shown ∙ c.later ∙ ap capped (later_same k),
              ),
            );
        unclosed = λ e.
            let n = shown-none rank s.n (λ k h. rank-fires k h ∙ none_below (some_fires nv w rules s) s.n e k h) in
            (ap (λ (x : Shown). x.close) shown ∙ n.0, (ap (λ (x : Shown). x.rank) shown ∙ n.1.0, ap (λ (x : Shown). x.later) shown ∙ n.1.1));
      }
        where
          later_same : (k : ℕ) → sum_below s.n (λ (j : ℕ). cond (ltb k j && ltb (rank j) no_rank) 1 0) ≡ later_firings nv w rules s k
          later_same k = sum_same s.n _ _ (λ j h. ap (λ (b : Bool). cond (ltb k j && b) 1 0) (rank-fires j h))

  -- a sounding without a record
  shows_nothing : (s : Sounding) (l : Log) → s.n ≡ 0 → l.begun ≡ s.begun → l.shown ≡ nothing_shown → Shows nv w rules s l
  shows_nothing s l z b e = record {
    begun = b;
    number = ap (λ (x : Shown). x.number) e ∙ sym (capped-low 0 (omega arith)) ∙ ap capped (sym z);
    closed = λ k f. absurd (omega (arith, z, f.within));
    unclosed = λ u. (ap (λ (x : Shown). x.close) e, (ap (λ (x : Shown). x.rank) e, ap (λ (x : Shown). x.later) e));
  }

  pub kept_shows : (s : Sounding) (l : Log) → Kept nv w rules s l → Shows nv w rules s l
  unfolding log_after
  kept_shows s l k = elim (bool_cases s.begun) [
    | inr o ↦
        let is : l ≡ empty_log = k.is ∙ ap (λ (b : Bool). cond b (log_after nv w rules s.records (opened empty_log) s.n) empty_log) o in
        shows_nothing s l (k.idle o) (ap (λ (x : Log). x.begun) is ∙ sym o) (ap (λ (x : Log). x.shown) is)
    | inl y ↦
        let is : l ≡ log_after nv w rules s.records (opened empty_log) s.n = k.is ∙ ap (λ (b : Bool). cond b (log_after nv w rules s.records (opened empty_log) s.n) empty_log) y in
        elim (eq-zero-or-pos s.n) [
          | inl z ↦
              let new : l ≡ opened empty_log = is ∙ ap (log_after nv w rules s.records (opened empty_log)) z in
              shows_nothing s l z (ap (λ (x : Log). x.begun) new ∙ sym y) (ap (λ (x : Log). x.shown) new)
          | inr p ↦ shows_fires s k.long (k.fit p s.n s.records (omega (arith, k.long))) l is y
        ]
  ]

  pub shows_close : ShowsClose nv w rules
  shows_close run = kept_shows (sounding_over nv w rules run no_sounding) (log_over nv w rules run empty_log) (kept_over nv w rules run no_sounding empty_log (kept-none nv w rules))

  pub first-fires : FirstFires nv w rules
  first-fires s e =
      let x = any_first (some_fires nv w rules s) s.n e in record { at = x.at; first = record { within = x.below; fires = x.holds; before = x.before } }

  -- ---- later records
  -- a log that shows a close
  pub record SameClose (a b : Log) : Type 0 where
    pub close : a.shown.close ≡ b.shown.close
    pub rank-shown : a.shown.rank ≡ b.shown.rank

  step-closed : (x : List ℕ) (l : Log) → 0 < l.shown.close → SameClose (stepped nv w rules x l) l
  step-closed x l h = elim (bool_cases l.begun) [
    | inr o ↦ let e = step-shut nv w rules x l o in record { close = ap (λ (y : Log). y.shown.close) e; rank-shown = ap (λ (y : Log). y.shown.rank) e }
    | inl y ↦
        let e = step_open nv w rules x l y in
        let r = noted-closed (rank_on nv w rules x l.windows) l.shown (λ z. omega (arith, h, z)) in
        record { close = ap (λ (y : Log). y.shown.close) e ∙ r.0; rank-shown = ap (λ (y : Log). y.shown.rank) e ∙ r.1 }
  ]

  after-closed : (records : List ℕ) (l : Log) → 0 < l.shown.close → (n : ℕ) → SameClose (log_after nv w rules records l n) l
  unfolding log_after
  after-closed records l h zero = record { close = refl; rank-shown = refl }
  after-closed records l h (suc n) =
      let r = after-closed records l h n in
      let t = step-closed (part_at nv records n) (log_after nv w rules records l n) (omega (arith, h, r.close)) in
      record { close = t.close ∙ r.close; rank-shown = t.rank-shown ∙ r.rank-shown }

  feeding-closed : (n : ℕ) (xs : List ℕ) (l : Log) → 0 < l.shown.close → SameClose (log_on nv w rules (feeding n xs) l) l
  feeding-closed n xs l h = elim (eq-zero-or-pos (log_refusal nv w rules n xs)) [
    | inr p ↦
        let e = unless_refused_lem (log_refusal nv w rules n xs) (log_after nv w rules xs l n) l p in
        record { close = ap (λ (y : Log). y.shown.close) e; rank-shown = ap (λ (y : Log). y.shown.rank) e }
    | inl z ↦
        let e = unless_not (log_refusal nv w rules n xs) (log_after nv w rules xs l n) l z in
        let r = after-closed xs l h n in
        record { close = ap (λ (y : Log). y.shown.close) e ∙ r.close; rank-shown = ap (λ (y : Log). y.shown.rank) e ∙ r.rank-shown }
  ]

  pub unaltered : Unaltered nv w rules
  unfolding log_over
  unaltered [] l g h = (refl, refl)
  unaltered (opening ∷ more) l g h = absurd (true_not_false (sym g))
  unaltered (feeding n xs ∷ more) l g h =
      let r = feeding-closed n xs l h in
      let t = unaltered more (log_on nv w rules (feeding n xs) l) g (omega (arith, h, r.close)) in
      (t.0 ∙ r.close, t.1 ∙ r.rank-shown)

  -- ---- closed once
  -- of a log that shows no close either none is shown after it, or one is
  step-unclosed : (x : List ℕ) (l : Log) → Unclosed l.shown → Unclosed (stepped nv w rules x l).shown ⊎ (0 < (stepped nv w rules x l).shown.close)
  step-unclosed x l u = elim (bool_cases l.begun) [
    | inr o ↦ subst (λ (y : Log). Unclosed y.shown ⊎ (0 < y.shown.close)) (sym (step-shut nv w rules x l o)) (inl u)
    | inl y ↦ subst (λ (y : Log). Unclosed y.shown ⊎ (0 < y.shown.close)) (sym (step_open nv w rules x l y)) (noted-unclosed (rank_on nv w rules x l.windows) l.shown u)
  ]

  after-unclosed : (records : List ℕ) (l : Log) → Unclosed l.shown → (n : ℕ) → Unclosed (log_after nv w rules records l n).shown ⊎ (0 < (log_after nv w rules records l n).shown.close)
  unfolding log_after
  after-unclosed records l u zero = inl u
  after-unclosed records l u (suc n) = elim (after-unclosed records l u n) [
    | inl v ↦ step-unclosed (part_at nv records n) (log_after nv w rules records l n) v
    | inr h ↦ inr (omega (arith, h, (step-closed (part_at nv records n) (log_after nv w rules records l n) h).close))
  ]

  feeding-unclosed : (n : ℕ) (xs : List ℕ) (l : Log) → Unclosed l.shown → Unclosed (log_on nv w rules (feeding n xs) l).shown ⊎ (0 < (log_on nv w rules (feeding n xs) l).shown.close)
  feeding-unclosed n xs l u = elim (eq-zero-or-pos (log_refusal nv w rules n xs)) [
    | inr p ↦ subst (λ (y : Log). Unclosed y.shown ⊎ (0 < y.shown.close)) (sym (unless_refused_lem (log_refusal nv w rules n xs) (log_after nv w rules xs l n) l p)) (inl u)
    | inl z ↦ subst (λ (y : Log). Unclosed y.shown ⊎ (0 < y.shown.close)) (sym (unless_not (log_refusal nv w rules n xs) (log_after nv w rules xs l n) l z)) (after-unclosed xs l u n)
  ]

  same_yes : (a b : Log) → SameClose b a → same_close nv w rules a b ≡ true
  same_yes a b e = and_both (eq-eqb _ _ (sym e.close)) (eq-eqb _ _ (sym e.rank-shown))

  same_no : (a b : Log) → a.shown.close ≡ 0 → 0 < b.shown.close → same_close nv w rules a b ≡ false
  same_no a b z h = ap (λ (t : Bool). t && eqb a.shown.rank b.shown.rank) (ne_eqb a.shown.close b.shown.close (λ e. omega (arith, z, h, e)))

  changes-closed : (more : List Event) (l : Log) → goes_on more ≡ true → 0 < l.shown.close → close_changes nv w rules more l ≡ 0
  unfolding close_changes
  changes-closed [] l g h = refl
  changes-closed (opening ∷ more) l g h = absurd (true_not_false (sym g))
  changes-closed (feeding n xs ∷ more) l g h =
      let r = feeding-closed n xs l h in
      ap₂ (λ (b : Bool) (k : ℕ). cond b 0 1 + k) (same_yes l (log_on nv w rules (feeding n xs) l) r) (changes-closed more (log_on nv w rules (feeding n xs) l) g (omega (arith, h, r.close)))

  changes-unclosed : (more : List Event) (l : Log) → goes_on more ≡ true → Unclosed l.shown → close_changes nv w rules more l ≡ cond (ltb 0 (log_over nv w rules more l).shown.close) 1 0
  unfolding close_changes log_over
  changes-unclosed [] l g u = sym (ap (λ (b : Bool). cond b 1 0) (le-ltb 0 l.shown.close (omega (arith, u.0))))
  changes-unclosed (opening ∷ more) l g u = absurd (true_not_false (sym g))
  changes-unclosed (feeding n xs ∷ more) l g u =
      let next : Log = log_on nv w rules (feeding n xs) l in
      elim (feeding-unclosed n xs l u) [
        | inl v ↦ ap₂ (λ (b : Bool) (k : ℕ). cond b 0 1 + k) (same_yes l next (record { close = v.0 ∙ sym u.0; rank-shown = v.1 ∙ sym u.1 })) (changes-unclosed more next g v) ∙ zero-add _
        | inr h ↦
            ap₂ (λ (b : Bool) (k : ℕ). cond b 0 1 + k) (same_no l next u.0 h) (changes-closed more next g h)
            ∙ sym (ap (λ (b : Bool). cond b 1 0) (lt-ltb 0 (log_over nv w rules more next).shown.close (omega (arith, h, (unaltered more next g h).0))))
      ]

  -- the close is shown exactly if some rule fires
  close_fires : (s : Sounding) (l : Log) → Shows nv w rules s l → ltb 0 l.shown.close ≡ ever_fires nv w rules s
  close_fires s l x = elim (bool_cases (ever_fires nv w rules s)) [
    | inl y ↦ let f = first-fires s y in lt-ltb 0 l.shown.close (omega (arith, capped-some f.at, (x.closed f.at f.first).0)) ∙ sym y
    | inr o ↦ le-ltb 0 l.shown.close (omega (arith, (x.unclosed o).0)) ∙ sym o
  ]

  opened-last : (before : List Event) (l : Log) → log_over nv w rules (before ++ (opening ∷ [])) l ≡ opened empty_log
  unfolding log_over
  opened-last [] l = refl
  opened-last (e ∷ before) l = opened-last before (log_on nv w rules e l)

  pub closed_once : ClosedOnce nv w rules
  closed_once before more g =
      let s = sounding_over nv w rules more new_sounding in
      let l = log_over nv w rules more (opened empty_log) in
      ap (close_changes nv w rules more) (opened-last before empty_log)
      ∙ changes-unclosed more (opened empty_log) g (refl, refl)
      ∙ ap (λ (b : Bool). cond b 1 0) (close_fires s l (kept_shows s l (kept_over nv w rules more new_sounding (opened empty_log) (kept_new nv w rules empty_log))))

  -- ---- the smaller rank
  pub smaller_rank : SmallerRank nv w rules
  smaller_rank run i j k f hi hj n fi fj =
      let s : Sounding = sounding_over nv w rules run no_sounding in
      let kept = kept_over nv w rules run no_sounding empty_log (kept-none nv w rules) in
      let least = ((shows_close run).closed k f).1.0 in
      let none : log_refusal nv w rules s.n s.records ≡ 0 = kept.fit (omega (arith, f.within)) s.n s.records (omega (arith, kept.long)) in
      let differ : rank_of rules i ≡ rank_of rules j → ⊥ = ranks-differ rules.count rules.ranks (good s kept.long none) i j hi hj n in
      let low-i = least.no_less i hi fi in
      let low-j = least.no_less j hj fj in (
        differ,
        (
          (λ h. omega (arith, low-i, h)),
          λ only. elim (only least.place least.among least.fires) [
            | inl e ↦ let is : (log_over nv w rules run empty_log).shown.rank ≡ rank_of rules i = sym least.is ∙ ap (rank_of rules) e in is ∙ lesser-left (rank_of rules i) (rank_of rules j) (omega (arith, is, low-j))
            | inr e ↦
                let is : (log_over nv w rules run empty_log).shown.rank ≡ rank_of rules j = sym least.is ∙ ap (rank_of rules) e in
                is ∙ lesser-right (rank_of rules i) (rank_of rules j) (omega (arith, is, low-i, differ))
          ],
        ),
      )
