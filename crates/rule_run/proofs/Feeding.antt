-- Records taken in one after the other, and the call's refusals. Assumes nothing.
use Rattle.std.proofs.Common.{◌≡◌, ℕ, suc, ◌+◌, ◌-◌, ◌*◌, ◌%◌, ◌^◌, ◌<◌, ◌≤◌, true, false, cond, ◌||◌, ltb, leb, List, [], ◌∷◌, ◌++◌, map, length, set, sym, refl, ap, ◌∙◌, subst, ap₂, le_trans, mul-le-mul_left, zero-add, add-one, arith, ltb-false}
use mathlib.Core.List.{map-append}
use borrow.Author.Tests.{not-false}
use lib.ListN.{length-map}
use Rattle.arrays.specs.Lists.{count_up, laid}
use Rattle.arrays.specs.Parts.{part_at}
use Rattle.arrays.proofs.Lists.{count_add, length-count}
use Rattle.arrays.proofs.Fill.{laid_more, length-laid}
use Rattle.limits.specs.Refusal.{bad_count, bad_width, outside_of}
use Rattle.limits.proofs.Refusals.{refused_here, refused-later, passed, within, neither, unless_refused_lem, unless_not}
use Rattle.expr.specs.declared.Token.{Token}
use Rattle.expr.specs.Formula.{tokens, is_formula}
use Rattle.expr.specs.Answers.{too_short, not_formula}
use Rattle.expr_eval.specs.Value.{value_of}
use Rattle.rule_run.specs.declared.RuleState.{RuleState}
use Rattle.rule_run.specs.Window.{nonzero, mark_at, sum_below, answer_to, answers_to, state_after, bad_window, too_few, run_refusal, ran_or}
use Rattle.arith.specs.Word.{bit_of}
use Rattle.rule_run.specs.Steps.{Ready, Fed}
use Rattle.rule_run.proofs.Counting.{Bits, mark-low, state-none, state-more, answer-more}

-- ---- answers
module _ (mark : ℕ → ℕ) (s m window : ℕ) where
  pub length-answers : (n : ℕ) → length (answers_to mark s m window n) ≡ n
  unfolding answers_to
  length-answers n = length-map (count_up 0 n) (λ (k : ℕ). answer_to mark s m window (suc k)) ∙ length-count 0 n

  -- one more
  pub answers-more : (n : ℕ) → answers_to mark s m window (n + 1) ≡ answers_to mark s m window n ++ (answer_to mark s m window (suc n) ∷ [])
  unfolding answers_to count_up
  answers-more n =
      ap (map (λ (k : ℕ). answer_to mark s m window (suc k))) (count_add 0 n 1)
      ∙ map-append (λ (k : ℕ). answer_to mark s m window (suc k)) (count_up 0 n) (count_up (0 + n) 1)
      ∙ ap (λ (k : ℕ). answers_to mark s m window n ++ (answer_to mark s m window (suc k) ∷ [])) (zero-add n)

  module _ (old : List ℕ) where
    -- before the first record
    pub fed_start : Bits mark → s < 2 ^ 64 → Fed mark s m window old 0 old s
    unfolding answers_to count_up
    fed_start low h = record { bits = low; fits = omega arith; answered = refl; state = sym (state-none mark s h) }

    module _ (k : ℕ) (answers : List ℕ) (past : ℕ) (f : Fed mark s m window old k answers past) where
      -- writing answers leaves the array's length
      pub fed_long : length answers ≡ length old
      fed_long = ap length f.answered ∙ length-laid (answers_to mark s m window k) old (omega (arith, length-answers k, f.fits))

      -- a record more
      pub fed_more : 1 ≤ window → window ≤ 64 → k < length answers → (v past' : ℕ)
          → v ≡ cond (leb m (sum_below (window - 1) (bit_of past) + mark k)) 1 0 → past' ≡ (past + past + mark k) % 2 ^ 64
          → Fed mark s m window old (k + 1) (set answers k v) past'
      fed_more least most room v past' ev ep = record {
        bits = f.bits;
        fits = omega (arith, fed_long);
        answered =
            ap₂ (λ (l : List ℕ) (x : ℕ). set l k x) f.answered answer
            ∙ laid_more (answers_to mark s m window k) old k (answer_to mark s m window (suc k)) (length-answers k) (omega (arith, fed_long))
            ∙ ap (λ (xs : List ℕ). laid xs old) (sym (answers-more k));
        state =
            ep
            ∙ ap (λ (p : ℕ). (p + p + mark k) % 2 ^ 64) f.state
            ∙ sym (state-more mark s f.bits k)
            ∙ ap (state_after mark s) (sym (add-one k));
      }
        where
          answer : v ≡ answer_to mark s m window (suc k)
          answer =
              ev
              ∙ ap (λ (p : ℕ). cond (leb m (sum_below (window - 1) (bit_of p) + mark k)) 1 0) f.state
              ∙ sym (answer-more mark s f.bits m window k least most)

-- so many records by another name
pub fed_at : {mark : ℕ → ℕ} {s m window : ℕ} {old : List ℕ} {k : ℕ} {answers : List ℕ} {past : ℕ} (n : ℕ) → k ≡ n
    → Fed mark s m window old k answers past → Fed mark s m window old n answers past
fed_at {mark} {s} {m} {window} {old} {k} {answers} {past} n e f = subst (λ (i : ℕ). Fed mark s m window old i answers past) e f

-- marks of a formula
pub marks-low : (nv w : ℕ) (ts : List Token) (records : List ℕ) → Bits (mark_at nv w ts records)
unfolding mark_at
marks-low nv w ts records k = mark-low (value_of w (part_at nv records k) ts)

pub mark-is : (nv w : ℕ) (ts : List Token) (records words : List ℕ) (k v : ℕ) → words ≡ part_at nv records k → v ≡ value_of w words ts → mark_at nv w ts records k ≡ nonzero v
unfolding mark_at
mark-is nv w ts records words k v e ev = ap nonzero (ap (λ (l : List ℕ). value_of w l ts) (sym e) ∙ sym ev)

-- ---- refusals
-- every test passed
pub record Passes (nv w count : ℕ) (ops operands : List ℕ) (m window n : ℕ) (records answers : List ℕ) : Type 0 where
  pub vars : bad_count nv ≡ false
  pub width : bad_width w ≡ false
  pub tokens-long : too_short count ops operands ≡ false
  pub arrays-long : too_few nv n records answers ≡ false
  pub formula : not_formula nv count ops operands ≡ false
  pub range : bad_window m window ≡ false

module _ (nv w count : ℕ) (ops operands : List ℕ) (m window n : ℕ) (records answers : List ℕ) where
  abbrev number : ℕ
  number = run_refusal nv w count ops operands m window n records answers

  pub refusal_1 : bad_count nv ≡ true → 1 ≡ number
  unfolding run_refusal
  refusal_1 a = sym (refused_here 1 _ a)

  module _ (a : bad_count nv ≡ false) where
    pub refusal_2 : bad_width w ≡ true → 2 ≡ number
    unfolding run_refusal
    refusal_2 b = sym (refused-later 1 a (refused_here 2 _ b))

    module _ (b : bad_width w ≡ false) where
      pub refusal_4 : (too_short count ops operands || too_few nv n records answers) ≡ true → 4 ≡ number
      unfolding run_refusal
      refusal_4 c = sym (refused-later 1 a (refused-later 2 b (refused_here 4 _ c)))

      module _ (c : (too_short count ops operands || too_few nv n records answers) ≡ false) where
        pub refusal_6 : not_formula nv count ops operands ≡ true → 6 ≡ number
        unfolding run_refusal
        refusal_6 d = sym (refused-later 1 a (refused-later 2 b (refused-later 4 c (refused_here 6 _ d))))

        module _ (d : not_formula nv count ops operands ≡ false) where
          pub refusal_10 : bad_window m window ≡ true → 10 ≡ number
          unfolding run_refusal
          refusal_10 e = sym (refused-later 1 a (refused-later 2 b (refused-later 4 c (refused-later 6 d (refused_here 10 0 e)))))

          pub refusal-none : bad_window m window ≡ false → 0 ≡ number
          unfolding run_refusal
          refusal-none e = sym (refused-later 1 a (refused-later 2 b (refused-later 4 c (refused-later 6 d (refused-later 10 e refl)))))

  -- where none applies, each test was passed
  pub passes : number ≡ 0 → Passes nv w count ops operands m window n records answers
  unfolding run_refusal
  passes e =
      let one = passed (bad_count nv) 1 _ (omega arith) e in
      let two = passed (bad_width w) 2 _ (omega arith) one.1 in
      let four = passed (too_short count ops operands || too_few nv n records answers) 4 _ (omega arith) two.1 in
      let six = passed (not_formula nv count ops operands) 6 _ (omega arith) four.1 in
      let ten = passed (bad_window m window) 10 0 (omega arith) six.1 in
      let long = neither (too_short count ops operands) (too_few nv n records answers) four.0 in
      record { vars = one.0; width = two.0; tokens-long = long.0; arrays-long = long.1; formula = six.0; range = ten.0 }

  -- and the run may go on
  pub ready : number ≡ 0 → Ready nv w count ops operands m window n records × (n ≤ length answers)
  ready e =
      let p = passes e in
      let long = neither (ltb (length records) (nv * n)) (ltb (length answers) n) p.arrays-long in
      let range = neither (outside_of 1 64 window) (outside_of 1 window m) p.range in
      let vars = within 1 6 nv p.vars in (
        record {
          some = vars.least;
          few = vars.most;
          narrow = (within 1 64 w p.width).most;
          formula = not-false (is_formula nv (tokens count ops operands)) p.formula;
          least = (within 1 window m range.1).least;
          reach = (within 1 window m range.1).most;
          most = (within 1 64 window range.0).most;
          fits = ltb-false (length records) (nv * n) long.0;
        },
        ltb-false (length answers) n long.1,
      )

-- fewer records of the same
pub ready_less : (nv w count : ℕ) (ops operands : List ℕ) (m window n k : ℕ) (records : List ℕ) → k ≤ n → Ready nv w count ops operands m window n records → Ready nv w count ops operands m window k records
ready_less nv w count ops operands m window n k records h r = record {
  some = r.some;
  few = r.few;
  narrow = r.narrow;
  formula = r.formula;
  least = r.least;
  reach = r.reach;
  most = r.most;
  fits = le_trans (mul-le-mul_left {m = k} {n = n} nv h) r.fits;
}

-- ---- the call
module _ (mark : ℕ → ℕ) (m window : ℕ) (s : RuleState) (n : ℕ) (answers : List ℕ) where
  -- refused
  pub ran-refused : (number : ℕ) → 0 < number → ran_or number mark m window s n answers ≡ record { reply = record { refusal = number; state = s }; answers = answers }
  ran-refused number h =
      λ i. record {
        reply = record { refusal = number; state = record { past = unless_refused_lem number (state_after mark s.past n) s.past h i } };
        answers = unless_refused_lem number (laid (answers_to mark s.past m window n) answers) answers h i;
      }

  -- answered
  pub ran-answered : (number : ℕ) → number ≡ 0 → (past : ℕ) (left : List ℕ) → Fed mark s.past m window answers n left past
      → ran_or number mark m window s n answers ≡ record { reply = record { refusal = number; state = record { past = past } }; answers = left }
  ran-answered number e past left f =
      λ i. record {
        reply = record { refusal = number; state = record { past = (unless_not number (state_after mark s.past n) s.past e ∙ sym f.state) i } };
        answers = (unless_not number (laid (answers_to mark s.past m window n) answers) answers e ∙ sym f.answered) i;
      }
