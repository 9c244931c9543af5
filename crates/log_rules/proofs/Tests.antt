-- Laws of "somewhere below n", of refusals over several rules and of the least rank. Assumes nothing.
use mathlib.Core.Path.{◌≡◌, refl, sym, ap, ◌∙◌}
use mathlib.Core.Logic.{◌⊎◌, inl, inr}
use mathlib.Core.Bool.{Bool, true, false, cond, ◌||◌}
use mathlib.Core.List.{List}
use Prim.Native.Nat.{ℕ, zero, suc, ◌+◌, ◌*◌, ◌/◌, ◌≤◌, ◌<◌}
use native.Mathlib.Numerals.{add-one}
use native.Mathlib.Omega.{arith}
use borrow.Author.Tests.{ltb-false, le-ltb, lt-ltb, eqb-false, eq-eqb}
use lib.Dec.{ltb, eqb}
use lib.ListN.{length, get_or}
use Rattle.arrays.proofs.Lists.{bool_cases}
use Rattle.limits.specs.Refusal.{refuse, outside_of, bad_count, bad_width}
use Rattle.limits.proofs.Refusals.{true_not_false, or_here, or_later, or_right, neither, passed, within, le_or_lt, refused_here, refused-later, parts_few}
use Rattle.log_rules.specs.Rules.{Rules, rank_of, rule_at, any_below, bad_formula, bad_range, same_rank, bad_ranks, short_rules, log_refusal}
use Rattle.log_rules.specs.Firing.{no_rank, lesser, least_rank}
use Rattle.log_rules.specs.Steps.{formulas_refusal, rules_refusal, lent_refusal, rule_refusal, least_number, Lends, Ranked}

same : (i n : ℕ) → n ≤ i → i < suc n → n ≡ i
same i n h l = omega arith

-- ---- somewhere below n
module _ (f : ℕ → Bool) where
  pub any_at : (n i : ℕ) → i < n → f i ≡ true → any_below n f ≡ true
  unfolding any_below
  any_at zero i l e = absurd (omega arith)
  any_at (suc n) i l e = elim (le_or_lt n i) [ inl h ↦ or_right (any_below n f) (ap f (same i n h l) ∙ e) | inr h ↦ or_here (f n) (any_at n i h e) ]

  pub any_none : (n : ℕ) → ((i : ℕ) → i < n → f i ≡ false) → any_below n f ≡ false
  unfolding any_below
  any_none zero h = refl
  any_none (suc n) h = or_later (any_none n (λ i l. h i (omega arith))) (h n (omega arith))

  pub none_below : (n : ℕ) → any_below n f ≡ false → (i : ℕ) → i < n → f i ≡ false
  none_below n e i l = elim (bool_cases (f i)) [ inl y ↦ absurd (true_not_false (sym (any_at n i l y) ∙ e)) | inr o ↦ o ]

-- one place more where f doesn't hold
pub below_more : (f : ℕ → Bool) (n : ℕ) → ((i : ℕ) → i < n → f i ≡ false) → f n ≡ false → (i : ℕ) → i < n + 1 → f i ≡ false
below_more f n h e i l = elim (le_or_lt n i) [ inl g ↦ ap f (sym (same i n g (omega arith))) ∙ e | inr g ↦ h i g ]

-- ---- ranks
module _ (count : ℕ) (ranks : List ℕ) where
  abbrev bad : ℕ → Bool
  bad i = outside_of 1 8 (get_or ranks i 0) || same_rank ranks i

  pub ranks_outside : outside_of 1 8 count ≡ true → true ≡ bad_ranks count ranks
  unfolding bad_ranks
  ranks_outside e = sym (or_here _ e)

  pub ranks-at : (i : ℕ) → i < count → bad i ≡ true → true ≡ bad_ranks count ranks
  unfolding bad_ranks
  ranks-at i l e = sym (or_right (outside_of 1 8 count) (any_at bad count i l e))

  pub ranks_good : outside_of 1 8 count ≡ false → ((i : ℕ) → i < count → bad i ≡ false) → false ≡ bad_ranks count ranks
  unfolding bad_ranks
  ranks_good e h = sym (or_later e (any_none bad count h))

pub ranked : (rules : Rules) → bad_ranks rules.count rules.ranks ≡ false → Ranked rules
unfolding bad_ranks
ranked rules e =
    let p = neither (outside_of 1 8 rules.count) _ e in
    let each : (i : ℕ) → i < rules.count → outside_of 1 8 (rank_of rules i) ≡ false = λ i l. (neither (outside_of 1 8 (rank_of rules i)) (same_rank rules.ranks i) (none_below (bad rules.count rules.ranks) rules.count p.1 i l)).0 in
    record {
      few = (within 1 8 rules.count p.0).most;
      least = λ i l. (within 1 8 (rank_of rules i) (each i l)).least;
      most = λ i l. (within 1 8 (rank_of rules i) (each i l)).most;
    }

-- ---- the numbers of several rules
least_of : (a b c d : Bool) → refuse (a || c) 6 (refuse (b || d) 10 0) ≡ least_number (refuse a 6 (refuse b 10 0)) (refuse c 6 (refuse d 10 0))
least_of true b true d = refl
least_of true b false true = refl
least_of true b false false = refl
least_of false true true d = refl
least_of false true false true = refl
least_of false true false false = refl
least_of false false true d = refl
least_of false false false true = refl
least_of false false false false = refl

module _ (a b : ℕ) where
  pub number-none : b ≡ 0 → a ≡ least_number a b
  number-none e = sym (ap (λ (t : Bool). cond t a (cond (eqb a 0) b (lesser a b))) (eq-eqb b 0 e))

  pub lesser-right : b < a → b ≡ lesser a b
  lesser-right h = sym (ap (λ (t : Bool). cond t b a) (lt-ltb b a h))

  pub lesser-left : a ≤ b → a ≡ lesser a b
  lesser-left h = sym (ap (λ (t : Bool). cond t b a) (le-ltb b a h))

module _ (nv : ℕ) (rules : Rules) where
  abbrev formula : ℕ → Bool
  formula i = bad_formula nv (rule_at rules i)

  abbrev range : ℕ → Bool
  range i = bad_range (rule_at rules i)

  pub numbers_none : 0 ≡ formulas_refusal nv rules 0
  unfolding formulas_refusal
  numbers_none = refl

  pub numbers_more : (n x a b : ℕ) → a ≡ formulas_refusal nv rules n → b ≡ rule_refusal nv (rule_at rules n) → x ≡ least_number a b → x ≡ formulas_refusal nv rules (n + 1)
  unfolding formulas_refusal rule_refusal
  numbers_more n x a b ea eb ex =
      ex
      ∙ (λ i. least_number (ea i) (eb i))
      ∙ sym (least_of (any_below n formula) (any_below n range) (formula n) (range n))
      ∙ sym (ap (formulas_refusal nv rules) (add-one n))

  -- where the first n + 1 pass, so do the first n and the last of them
  pub numbers_zero : (n : ℕ) → formulas_refusal nv rules (n + 1) ≡ 0 → (formulas_refusal nv rules n ≡ 0) × (rule_refusal nv (rule_at rules n) ≡ 0)
  unfolding formulas_refusal rule_refusal
  numbers_zero n e =
      let p = passed (any_below (suc n) formula) 6 (refuse (any_below (suc n) range) 10 0) (omega arith) (ap (formulas_refusal nv rules) (sym (add-one n)) ∙ e) in
      let q = passed (any_below (suc n) range) 10 0 (omega arith) p.1 in
      let f = neither (any_below n formula) (formula n) p.0 in
      let g = neither (any_below n range) (range n) q.0 in
      (refused-later 6 f.0 (refused-later 10 g.0 refl), refused-later 6 f.1 (refused-later 10 g.1 refl))

  -- of each of the first n
  pub number-each : (n : ℕ) → formulas_refusal nv rules n ≡ 0 → (i : ℕ) → i < n → rule_refusal nv (rule_at rules i) ≡ 0
  unfolding formulas_refusal rule_refusal
  number-each n e i l =
      let p = passed (any_below n formula) 6 (refuse (any_below n range) 10 0) (omega arith) e in
      let q = passed (any_below n range) 10 0 (omega arith) p.1 in
      refused-later 6 (none_below formula n p.0 i l) (refused-later 10 (none_below range n q.0 i l) refl)

  -- 11 after them
  pub numbers_ranks : (x a : ℕ) → a ≡ formulas_refusal nv rules rules.count → x ≡ cond (eqb a 0) (refuse (bad_ranks rules.count rules.ranks) 11 0) a → x ≡ rules_refusal nv rules
  unfolding formulas_refusal rules_refusal
  numbers_ranks x a ea ex = ex ∙ ap (λ (k : ℕ). cond (eqb k 0) (refuse (bad_ranks rules.count rules.ranks) 11 0) k) ea ∙ after (any_below rules.count formula) (any_below rules.count range)
    where
      after : (f g : Bool) → cond (eqb (refuse f 6 (refuse g 10 0)) 0) (refuse (bad_ranks rules.count rules.ranks) 11 0) (refuse f 6 (refuse g 10 0))
          ≡ refuse f 6 (refuse g 10 (refuse (bad_ranks rules.count rules.ranks) 11 0))
      after true g = refl
      after false true = refl
      after false false = refl

  -- of good ranks the rest remains
  pub rules_formulas : bad_ranks rules.count rules.ranks ≡ false → rules_refusal nv rules ≡ formulas_refusal nv rules rules.count
  unfolding formulas_refusal rules_refusal
  rules_formulas e =
      ap (λ (b : Bool). refuse (any_below rules.count formula) 6 (refuse (any_below rules.count range) 10 (refuse b 11 0))) e

  -- where no number applies, the ranks are good
  pub rules_ranks : rules_refusal nv rules ≡ 0 → bad_ranks rules.count rules.ranks ≡ false
  unfolding rules_refusal
  rules_ranks e =
      let p = passed (any_below rules.count formula) 6 _ (omega arith) e in
      let q = passed (any_below rules.count range) 10 _ (omega arith) p.1 in
      (passed (bad_ranks rules.count rules.ranks) 11 0 (omega arith) q.1).0

-- ---- what is lent
-- array after array
module _ (rules : Rules) where
  pub short-ranks : length rules.ranks < rules.count → true ≡ short_rules rules
  unfolding short_rules
  short-ranks h = sym (or_here _ (lt-ltb _ _ h))

  module _ (ranks : rules.count ≤ length rules.ranks) where
    pub short-ms : length rules.ms < rules.count → true ≡ short_rules rules
    unfolding short_rules
    short-ms h = sym (or_later (le-ltb _ _ ranks) (or_here _ (lt-ltb _ _ h)))

    module _ (ms : rules.count ≤ length rules.ms) where
      pub short-windows : length rules.windows < rules.count → true ≡ short_rules rules
      unfolding short_rules
      short-windows h = sym (or_later (le-ltb _ _ ranks) (or_later (le-ltb _ _ ms) (or_here _ (lt-ltb _ _ h))))

      module _ (windows : rules.count ≤ length rules.windows) where
        pub short-counts : length rules.token_counts < rules.count → true ≡ short_rules rules
        unfolding short_rules
        short-counts h = sym (or_later (le-ltb _ _ ranks) (or_later (le-ltb _ _ ms) (or_later (le-ltb _ _ windows) (or_here _ (lt-ltb _ _ h)))))

        module _ (counts : rules.count ≤ length rules.token_counts) where
          pub short-ops : length rules.ops / 64 < rules.count → true ≡ short_rules rules
          unfolding short_rules
          short-ops h =
              sym
              (or_later (le-ltb _ _ ranks)
              (or_later (le-ltb _ _ ms)
              (or_later (le-ltb _ _ windows)
              (or_later (le-ltb _ _ counts) (or_here _ (sym (parts_few (length rules.ops) 64 rules.count (omega arith)) ∙ lt-ltb _ _ h))))))

          pub short-operands : rules.count ≤ length rules.ops / 64 → ltb (length rules.operands / 64) rules.count ≡ short_rules rules
          unfolding short_rules
          short-operands h =
              sym
              (or_later (le-ltb _ _ ranks)
              (or_later (le-ltb _ _ ms)
              (or_later (le-ltb _ _ windows)
              (or_later (le-ltb _ _ counts)
              (or_later (sym (parts_few (length rules.ops) 64 rules.count (omega arith)) ∙ le-ltb _ _ h) (sym (parts_few (length rules.operands) 64 rules.count (omega arith))))))))

module _ (nv w : ℕ) (rules : Rules) (n : ℕ) (records : List ℕ) where
  -- the rules' numbers come after those of what is lent
  pub refusal_lent : 0 < lent_refusal nv w rules n records → log_refusal nv w rules n records ≡ lent_refusal nv w rules n records
  unfolding lent_refusal log_refusal
  refusal_lent h = first (bad_count nv) (bad_width w) (short_rules rules || ltb (length records) (nv * n)) h
    where
      rest : ℕ
      rest =
          refuse (any_below rules.count (λ (i : ℕ). bad_formula nv (rule_at rules i))) 6
          (refuse (any_below rules.count (λ (i : ℕ). bad_range (rule_at rules i))) 10
          (refuse (bad_ranks rules.count rules.ranks) 11 0))

      first : (a b c : Bool) → 0 < refuse a 1 (refuse b 2 (refuse c 4 0)) → refuse a 1 (refuse b 2 (refuse c 4 rest)) ≡ refuse a 1 (refuse b 2 (refuse c 4 0))
      first true b c p = refl
      first false true c p = refl
      first false false true p = refl
      first false false false p = absurd (omega arith)

  pub refusal_rules : lent_refusal nv w rules n records ≡ 0 → log_refusal nv w rules n records ≡ rules_refusal nv rules
  unfolding lent_refusal log_refusal rules_refusal
  refusal_rules e =
      let p = passed (bad_count nv) 1 _ (omega arith) e in
      let q = passed (bad_width w) 2 _ (omega arith) p.1 in
      let r = passed (short_rules rules || ltb (length records) (nv * n)) 4 0 (omega arith) q.1 in
      refused-later 1 p.0 (refused-later 2 q.0 (refused-later 4 r.0 refl))

  -- test after test
  pub lent_1 : bad_count nv ≡ true → 1 ≡ lent_refusal nv w rules n records
  unfolding lent_refusal
  lent_1 a = sym (refused_here 1 _ a)

  module _ (a : bad_count nv ≡ false) where
    pub lent_2 : bad_width w ≡ true → 2 ≡ lent_refusal nv w rules n records
    unfolding lent_refusal
    lent_2 b = sym (refused-later 1 a (refused_here 2 _ b))

    module _ (b : bad_width w ≡ false) where
      pub lent_4 : (short_rules rules || ltb (length records) (nv * n)) ≡ true → 4 ≡ lent_refusal nv w rules n records
      unfolding lent_refusal
      lent_4 c = sym (refused-later 1 a (refused-later 2 b (refused_here 4 0 c)))

      pub lent_none : (short_rules rules || ltb (length records) (nv * n)) ≡ false → 0 ≡ lent_refusal nv w rules n records
      unfolding lent_refusal
      lent_none c = sym (refused-later 1 a (refused-later 2 b (refused-later 4 c refl)))

  pub lends : lent_refusal nv w rules n records ≡ 0 → Lends nv w rules n records
  unfolding lent_refusal short_rules
  lends e =
      let p = passed (bad_count nv) 1 _ (omega arith) e in
      let q = passed (bad_width w) 2 _ (omega arith) p.1 in
      let r = passed (short_rules rules || ltb (length records) (nv * n)) 4 0 (omega arith) q.1 in
      let s = neither (short_rules rules) _ r.0 in
      let a = neither (ltb (length rules.ranks) rules.count) _ s.0 in
      let b = neither (ltb (length rules.ms) rules.count) _ a.1 in
      let c = neither (ltb (length rules.windows) rules.count) _ b.1 in
      let d = neither (ltb (length rules.token_counts) rules.count) _ c.1 in
      let f = neither (ltb (length rules.ops) (64 * rules.count)) _ d.1 in
      record {
        some = (within 1 6 nv p.0).least;
        few = (within 1 6 nv p.0).most;
        wide = (within 1 64 w q.0).least;
        narrow = (within 1 64 w q.0).most;
        ranks = ltb-false _ _ a.0;
        ms = ltb-false _ _ b.0;
        windows = ltb-false _ _ c.0;
        counts = ltb-false _ _ d.0;
        ops = ltb-false _ _ f.0;
        operands = ltb-false _ _ f.1;
        fits = ltb-false _ _ s.1;
      }

-- ---- the least rank
module _ (rules : Rules) where
  pub rank_same : (n : ℕ) (f g : ℕ → Bool) → ((i : ℕ) → i < n → f i ≡ g i) → least_rank rules n f ≡ least_rank rules n g
  unfolding least_rank
  rank_same zero f g h = refl
  rank_same (suc n) f g h =
      let e = rank_same n f g (λ i l. h i (omega arith)) in
      λ j. cond (h n (omega arith) j) (lesser (e j) (rank_of rules n)) (e j)

-- ---- which tests passed
module _ (nv w : ℕ) (rules : Rules) (n : ℕ) (records : List ℕ) where
  pub refusal-none : log_refusal nv w rules n records ≡ 0 → (lent_refusal nv w rules n records ≡ 0) × (rules_refusal nv rules ≡ 0)
  unfolding lent_refusal log_refusal rules_refusal
  refusal-none e =
      let p = passed (bad_count nv) 1 _ (omega arith) e in
      let q = passed (bad_width w) 2 _ (omega arith) p.1 in
      let r = passed (short_rules rules || ltb (length records) (nv * n)) 4 _ (omega arith) q.1 in
      (refused-later 1 p.0 (refused-later 2 q.0 (refused-later 4 r.0 refl)), r.1)

  -- other records that are long enough pass too
  pub refusal_other : log_refusal nv w rules n records ≡ 0 → (k : ℕ) (xs : List ℕ) → nv * k ≤ length xs → log_refusal nv w rules k xs ≡ 0
  unfolding log_refusal
  refusal_other e k xs h =
      let p = passed (bad_count nv) 1 _ (omega arith) e in
      let q = passed (bad_width w) 2 _ (omega arith) p.1 in
      let r = passed (short_rules rules || ltb (length records) (nv * n)) 4 _ (omega arith) q.1 in
      refused-later 1 p.0 (refused-later 2 q.0 (refused-later 4 (or_later (neither (short_rules rules) _ r.0).0 (le-ltb (length xs) (nv * k) h)) r.1))

-- two places of good ranks have different ones
module _ (count : ℕ) (ranks : List ℕ) (good : bad_ranks count ranks ≡ false) where
  earlier : (i j : ℕ) → i < j → j < count → get_or ranks i 0 ≡ get_or ranks j 0 → ⊥
  unfolding bad_ranks
  earlier i j l h =
      let p = neither (outside_of 1 8 count) _ good in
      let q = neither (outside_of 1 8 (get_or ranks j 0)) (same_rank ranks j) (none_below (bad count ranks) count p.1 j h) in
      eqb-false (get_or ranks i 0) (get_or ranks j 0) (none_below (λ (t : ℕ). eqb (get_or ranks t 0) (get_or ranks j 0)) j q.1 i l)

  pub ranks-differ : (i j : ℕ) → i < count → j < count → (i ≡ j → ⊥) → get_or ranks i 0 ≡ get_or ranks j 0 → ⊥
  ranks-differ i j hi hj n e = elim (le_or_lt i j) [ inl a ↦ earlier i j (omega (arith, a, n)) hj e | inr b ↦ earlier j i b hi (sym e) ]

-- ---- the first place
pub record FirstAt (f : ℕ → Bool) (n : ℕ) : Type 0 where
  pub at : ℕ
  pub below : at < n
  pub holds : f at ≡ true
  pub before : (i : ℕ) → i < at → f i ≡ false

pub any_first : (f : ℕ → Bool) (n : ℕ) → any_below n f ≡ true → FirstAt f n
unfolding any_below
any_first f zero e = absurd (true_not_false (sym e))
any_first f (suc n) e = elim (bool_cases (any_below n f)) [
  | inl y ↦ let x = any_first f n y in record { at = x.at; below = omega (arith, x.below); holds = x.holds; before = x.before }
  | inr o ↦ record { at = n; below = omega arith; holds = sym (or_later o refl) ∙ e; before = none_below f n o }
]

-- ---- the least rank
-- r is the least rank of those among the first n that pass the test
pub record LeastOf (rules : Rules) (n : ℕ) (test : ℕ → Bool) (r : ℕ) : Type 0 where
  pub place : ℕ
  pub among : place < n
  pub passes : test place ≡ true
  pub is : rank_of rules place ≡ r
  pub no_less : (i : ℕ) → i < n → test i ≡ true → r ≤ rank_of rules i

module _ (rules : Rules) (test : ℕ → Bool) where
  -- none passes, or there is a least
  abbrev None : ℕ → Type 0
  None n = ((i : ℕ) → i < n → test i ≡ false) × (least_rank rules n test ≡ no_rank)

  rank_skip : (n : ℕ) → test n ≡ false → least_rank rules (suc n) test ≡ least_rank rules n test
  unfolding least_rank
  rank_skip n e = ap (λ (b : Bool). cond b (lesser (least_rank rules n test) (rank_of rules n)) (least_rank rules n test)) e

  rank-takes : (n : ℕ) → test n ≡ true → least_rank rules (suc n) test ≡ lesser (least_rank rules n test) (rank_of rules n)
  unfolding least_rank
  rank-takes n e = ap (λ (b : Bool). cond b (lesser (least_rank rules n test) (rank_of rules n)) (least_rank rules n test)) e

  -- the last of n + 1 doesn't pass
  skipped : (n : ℕ) → test n ≡ false → None n ⊎ LeastOf rules n test (least_rank rules n test) → None (suc n) ⊎ LeastOf rules (suc n) test (least_rank rules (suc n) test)
  skipped n e (inl x) = inl ((λ i l. below_more test n x.0 e i (omega arith)), rank_skip n e ∙ x.1)
  skipped n e (inr x) = inr (record {
    place = x.place;
    among = omega (arith, x.among);
    passes = x.passes;
    is = x.is ∙ sym (rank_skip n e);
    no_less = λ i l t. elim (le_or_lt n i) [
      | inl a ↦ absurd (true_not_false (sym t ∙ ap test (sym (same i n a l)) ∙ e))
      | inr b ↦ omega (arith, x.no_less i b t, rank_skip n e)
    ];
  })

  -- it passes
  passing : (n : ℕ) → rank_of rules n ≤ 8 → test n ≡ true → None n ⊎ LeastOf rules n test (least_rank rules n test) → LeastOf rules (suc n) test (least_rank rules (suc n) test)
  passing n h e (inl x) =
      let r : least_rank rules (suc n) test ≡ rank_of rules n = rank-takes n e ∙ sym (lesser-right (least_rank rules n test) (rank_of rules n) (omega (arith, x.1, h))) in
      record {
        place = n;
        among = omega arith;
        passes = e;
        is = sym r;
        no_less = λ i l t. elim (le_or_lt n i) [
          | inl a ↦ omega (arith, r, ap (rank_of rules) (same i n a l))
          | inr b ↦ absurd (true_not_false (sym t ∙ x.0 i b))
        ];
      }
  passing n h e (inr x) = elim (le_or_lt (least_rank rules n test) (rank_of rules n)) [
    | inl a ↦
        let r : least_rank rules (suc n) test ≡ least_rank rules n test = rank-takes n e ∙ sym (lesser-left (least_rank rules n test) (rank_of rules n) a) in
        record {
          place = x.place;
          among = omega (arith, x.among);
          passes = x.passes;
          is = x.is ∙ sym r;
          no_less = λ i l t. elim (le_or_lt n i) [ inl q ↦ omega (arith, r, a, ap (rank_of rules) (same i n q l)) | inr q ↦ omega (arith, r, x.no_less i q t) ];
        }
    | inr b ↦
        let r : least_rank rules (suc n) test ≡ rank_of rules n = rank-takes n e ∙ sym (lesser-right (least_rank rules n test) (rank_of rules n) b) in
        record {
          place = n;
          among = omega arith;
          passes = e;
          is = sym r;
          no_less = λ i l t. elim (le_or_lt n i) [ inl q ↦ omega (arith, r, ap (rank_of rules) (same i n q l)) | inr q ↦ omega (arith, r, b, x.no_less i q t) ];
        }
  ]

  pub rank-least : (n : ℕ) → ((i : ℕ) → i < n → rank_of rules i ≤ 8) → None n ⊎ LeastOf rules n test (least_rank rules n test)
  unfolding least_rank
  rank-least zero h = inl ((λ i l. absurd (omega arith)), refl)
  rank-least (suc n) h = elim (bool_cases (test n)) [
    | inl y ↦ inr (passing n (h n (omega arith)) y (rank-least n (λ i l. h i (omega arith))))
    | inr o ↦ skipped n o (rank-least n (λ i l. h i (omega arith)))
  ]
