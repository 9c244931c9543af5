-- What `ask` answers of a rule: its number, its window and where it fires. Assumes nothing.
use mathlib.Core.Path.{◌≡◌, refl, sym, ap, ◌∙◌}
use mathlib.Core.Logic.{inl, inr}
use mathlib.Core.Bool.{Bool, true, false, not, cond}
use mathlib.Core.List.{List}
use Prim.Native.Nat.{ℕ, ◌*◌, ◌^◌, ◌≤◌, ◌<◌}
use native.Mathlib.Omega.{arith}
use borrow.Author.Tests.{ltb-true, ltb-false, le-ltb, not-false}
use lib.Dec.{ltb, eqb}
use lib.ListN.{length, get_or}
use Rattle.arrays.proofs.Lists.{bool_cases}
use Rattle.arrays.proofs.Parts.{part_within, length-part}
use Rattle.std.specs.Prelude.{Result, Ok, Err}
use Rattle.limits.specs.declared.Refusal.{Refusal}
use Rattle.rule_run.specs.declared.RuleState.{RuleState}
use Rattle.rule_run.specs.declared.inner.RecordAnswer.{RecordAnswer}
use Rattle.rule_run.specs.Steps.{record_replied}
use Rattle.limits.specs.Refusal.{refusal_of, bad_count, bad_width}
use Rattle.limits.proofs.Refusals.{passed, refused_here, refused-later, or_later, inside}
use Rattle.expr.specs.Formula.{tokens, is_formula}
use Rattle.expr.specs.Answers.{too_short}
use Rattle.expr.proofs.Tokens.{tokens-length}
use Rattle.expr.proofs.Machine.{passed as formula-passed}
use Rattle.rule_run.specs.Window.{Reply, replied, Ran, ran, run_refusal}
use Rattle.log_rules.specs.Rules.{Rule, Rules, rule_in, bad_formula}
use Rattle.log_rules.specs.Firing.{rule_made}
use Rattle.log_rules.specs.Steps.{Lends, LendsAt, rule_refusal, ran_within, past_at, fires_on}
use Rattle.log_rules.proofs.Singles.{Sound, fed_state, fed_answer}

-- `ran_within` by whether there are more tokens than places
abbrev pub either_by : ℕ → ℕ → ℕ → List ℕ → List ℕ → ℕ → ℕ → ℕ → ℕ → List ℕ → List ℕ → Bool → Ran
either_by nv w count ops operands m window s n records answers b =
    cond b (record { reply = record { refusal = 6; state = record { past = s } }; answers = answers })
    (ran nv w count ops operands m window (record { past = s }) n records answers)

module _ (nv w : ℕ) (r : Rule) (s n : ℕ) (records answers : List ℕ) where
  abbrev pub asked : Ran
  asked = ran_within nv w r.token_count r.ops r.operands r.m r.window s n records answers

  abbrev either : Bool → Ran
  either b = either_by nv w r.token_count r.ops r.operands r.m r.window s n records answers b

  -- more tokens than places are no formula
  too_many : 64 < r.token_count → bad_formula nv r ≡ true
  too_many h = elim (bool_cases (is_formula nv (tokens r.token_count r.ops r.operands))) [
    | inl y ↦ absurd (omega (arith, (formula-passed nv (tokens r.token_count r.ops r.operands) y).most, tokens-length r.ops r.operands r.token_count))
    | inr n ↦ ap not n
  ]

  few-tokens : rule_refusal nv r ≡ 0 → ltb 64 r.token_count ≡ false
  unfolding rule_refusal
  few-tokens e =
      let p = passed (bad_formula nv r) 6 _ (omega arith) e in
      le-ltb 64 r.token_count (omega (arith, (formula-passed nv (tokens r.token_count r.ops r.operands) (not-false _ p.0)).most, tokens-length r.ops r.operands r.token_count))

  module _ (vars : bad_count nv ≡ false) (width : bad_width w ≡ false) (ops : length r.ops ≡ 64) (operands : length r.operands ≡ 64) (fits : nv * n ≤ length records) (room : n ≤ length answers) where
    pub asked-number : asked.reply.refusal ≡ rule_refusal nv r
    unfolding rule_refusal run_refusal
    asked-number = elim (bool_cases (ltb 64 r.token_count)) [
      | inl y ↦ ap (λ (b : Bool). (either b).reply.refusal) y ∙ sym (refused_here 6 _ (too_many (ltb-true 64 r.token_count y)))
      | inr z ↦
          let few : r.token_count ≤ 64 = ltb-false 64 r.token_count z in
          let short : too_short r.token_count r.ops r.operands ≡ false =
          or_later (le-ltb (length r.ops) r.token_count (omega (arith, few, ops))) (le-ltb (length r.operands) r.token_count (omega (arith, few, operands))) in
          ap (λ (b : Bool). (either b).reply.refusal) z
          ∙ refused-later 1 vars (refused-later 2 width (refused-later 4 (or_later short (or_later (le-ltb (length records) (nv * n) fits) (le-ltb (length answers) n room))) refl))
    ]

    module _ (e : rule_refusal nv r ≡ 0) (word : s < 2 ^ 64) where
      sound : Sound nv w r
      sound = record { vars = vars; width = width; ops = ops; operands = operands; number = e }

      ran-asked : asked ≡ rule_made nv w r (record { n = n; records = records; answers = answers }) s
      ran-asked = ap either (few-tokens e)

      pub asked-state : asked.reply.state.past ≡ past_at nv w r records s n
      asked-state = ap (λ (x : Ran). x.reply.state.past) ran-asked ∙ fed_state nv w r sound records n answers fits room s word

      pub asked-answer : (k : ℕ) → k < n → eqb (get_or asked.answers k 0) 1 ≡ fires_on nv w r records s k
      asked-answer k l = ap (λ (x : Ran). eqb (get_or x.answers k 0) 1) ran-asked ∙ fed_answer nv w r sound records n answers fits room s word k l

-- ---- the rule at a place
-- what is lent of all rules, of one of them, with m records of the same array
pub lent_at : (nv w i m : ℕ) (rules : Rules) (n : ℕ) (records : List ℕ) → Lends nv w rules n records → i < rules.count → nv * m ≤ length records
    → LendsAt nv w i rules.ms rules.windows rules.token_counts rules.ops rules.operands m records
lent_at nv w i m rules n records p h fits = record {
  some = p.some;
  few = p.few;
  wide = p.wide;
  narrow = p.narrow;
  ms-there = omega (arith, p.ms, h);
  windows-there = omega (arith, p.windows, h);
  counts-there = omega (arith, p.counts, h);
  ops-there = omega (arith, p.ops, part_within 64 i rules.count h);
  operands-there = omega (arith, p.operands, part_within 64 i rules.count h);
  fits = fits;
}

module _ (nv w i : ℕ) (ms windows counts ops operands : List ℕ) (past n : ℕ) (records answers : List ℕ) (l : LendsAt nv w i ms windows counts ops operands n records) (room : n ≤ length answers) where
  abbrev rule : Rule
  rule = rule_in ms windows counts ops operands i

  vars : bad_count nv ≡ false
  vars = inside 1 6 nv l.some l.few

  width : bad_width w ≡ false
  width = inside 1 64 w l.wide l.narrow

  ops-long : length rule.ops ≡ 64
  ops-long = length-part 64 ops i l.ops-there

  operands-long : length rule.operands ≡ 64
  operands-long = length-part 64 operands i l.operands-there

  -- of a rule q that is the one at place i
  module _ (q : Rule) (same : q ≡ rule) where
    abbrev of_rule : Rule → Ran
    of_rule q = asked nv w q past n records answers

    pub at-number : (r : Reply) → r ≡ (of_rule q).reply → r.refusal ≡ rule_refusal nv rule
    at-number r e = ap (λ (x : Reply). x.refusal) e ∙ ap (λ (q : Rule). (of_rule q).reply.refusal) same ∙ asked-number nv w rule past n records answers vars width ops-long operands-long l.fits room

    module _ (word : past < 2 ^ 64) (number : rule_refusal nv rule ≡ 0) where
      pub at-state : (r : Reply) → r ≡ (of_rule q).reply → r.state.past ≡ past_at nv w rule records past n
      at-state r e = ap (λ (x : Reply). x.state.past) e ∙ ap (λ (q : Rule). (of_rule q).reply.state.past) same ∙ asked-state nv w rule past n records answers vars width ops-long operands-long l.fits room number word

      pub at-answer : (left : List ℕ) → left ≡ (of_rule q).answers → (k : ℕ) → k < n → eqb (get_or left k 0) 1 ≡ fires_on nv w rule records past k
      at-answer left e k h =
          ap (λ (x : List ℕ). eqb (get_or x k 0) 1) (e ∙ ap (λ (q : Rule). (of_rule q).answers) same) ∙ asked-answer nv w rule past n records answers vars width ops-long operands-long l.fits room number word k h

-- ---- what a caller has after a call, by its `Result`
pub replied-number : (s : RuleState) (r : Result RuleState Refusal) → refusal_of r ≡ (replied s r).refusal
replied-number s (Ok x) = refl
replied-number s (Err e) = refl

pub record-number : (s : RuleState) (r : Result RecordAnswer Refusal) → refusal_of r ≡ (record_replied s r).refusal
record-number s (Ok x) = refl
record-number s (Err e) = refl
