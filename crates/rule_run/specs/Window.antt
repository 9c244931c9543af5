-- A rule over a run of records: its answers, its state and its refusals, by counting. Assumes nothing.
use Rattle.std.specs.Prelude.{ℕ, zero, suc, ◌+◌, ◌-◌, ◌*◌, ◌^◌, Bool, cond, ◌||◌, List, map, length, nat_le, nat_lt, Result, Ok, Err}
use Rattle.arith.specs.Word.{bit_of}
use Rattle.arrays.specs.Lists.{count_up, laid}
use Rattle.arrays.specs.Parts.{part_at}
use Rattle.limits.specs.Refusal.{refuse, unless_refused, outside_of, bad_count, bad_width, number_of}
use Rattle.limits.specs.declared.Refusal.{Refusal}
use Rattle.expr.specs.declared.Token.{Token}
use Rattle.expr.specs.Formula.{tokens}
use Rattle.expr.specs.Answers.{too_short, not_formula}
use Rattle.expr_eval.specs.Value.{value_of}
use Rattle.rule_run.specs.declared.RuleState.{RuleState}

-- ---- marks
-- 02, 2.6: its formula was nonzero. A record's mark: 1 where the value isn't 0
abbrev pub nonzero : ℕ → ℕ
nonzero zero = 0
nonzero (suc v) = 1

-- 02, 2.6: the records lie in one lent array, as many words each as there are variables. The mark of record k; the first record is number 0
unfoldable pub mark_at : ℕ → ℕ → List Token → List ℕ → ℕ → ℕ
unfolding part_at value_of
mark_at nv w ts records k = nonzero (value_of w (part_at nv records k) ts)

-- ---- counting
-- f 0 + f 1 + .. + f (n - 1)
unfoldable pub sum_below : ℕ → (ℕ → ℕ) → ℕ
sum_below zero f = 0
sum_below (suc n) f = sum_below n f + f n

-- S9: bit i of a state, `bit_of`, is the mark i records before the last that it has seen; every 64 bits are a state, and the empty one is 0
-- marks, each 0 or 1, of the records of a call by their numbers, and the state s before them
module _ (mark : ℕ → ℕ) (s : ℕ) where
  -- the mark i records before the last of n: one of these n, or one from before them, which the state s has
  unfoldable pub ago : ℕ → ℕ → ℕ
  ago n i = cond (nat_lt i n) (mark (n - 1 - i)) (bit_of s (i - n))

  -- 02, 2.6: the answers are 0 or 1. Of the last of n records 1 exactly if in at least M of the last W, itself included, the mark is 1
  unfoldable pub answer_to : ℕ → ℕ → ℕ → ℕ
  unfolding ago sum_below
  answer_to m window n = cond (nat_le m (sum_below window (ago n))) 1 0

  -- S9: the state after n records
  unfoldable pub state_after : ℕ → ℕ
  unfolding ago sum_below
  state_after n = sum_below 64 (λ (i : ℕ). ago n i * 2 ^ i)

  -- the answers to n records, one after the other
  unfoldable pub answers_to : ℕ → ℕ → ℕ → List ℕ
  unfolding answer_to count_up
  answers_to m window n = map (λ (k : ℕ). answer_to m window (suc k)) (count_up 0 n)

-- ---- the call
-- 02, 2.6, Errors: 10 if M or W is outside its range: M is 1 to W, W is 1 to 64
abbrev pub bad_window : ℕ → ℕ → Bool
bad_window m window = outside_of 1 64 window || outside_of 1 window m

-- 01, Turned back, 4: a lent array shorter than its count needs: nv words for each record, a byte for each answer
abbrev pub too_few : ℕ → ℕ → List ℕ → List ℕ → Bool
too_few nv n records answers = nat_lt (length records) (nv * n) || nat_lt (length answers) n

-- 02, 2.6, Errors, after 01's 1, 2, 4 and 6: 10
unfoldable pub run_refusal : ℕ → ℕ → ℕ → List ℕ → List ℕ → ℕ → ℕ → ℕ → List ℕ → List ℕ → ℕ
run_refusal nv w count ops operands m window n records answers =
    refuse (bad_count nv) 1
    (refuse (bad_width w) 2
    (refuse (too_short count ops operands || too_few nv n records answers) 4
    (refuse (not_formula nv count ops operands) 6
    (refuse (bad_window m window) 10 0))))

-- what a caller has after a call: the number of its refusal, 0 for none, and the state; beside a refusal the one that was handed in
pub record Reply : Type 0 where
  pub refusal : ℕ
  pub state : RuleState

abbrev pub replied : RuleState → Result RuleState Refusal → Reply
replied s (Ok t) = record { refusal = 0; state = t }
replied s (Err r) = record { refusal = number_of r; state = s }

-- what a call replies, and what it leaves in the lent array of answers
pub record Ran : Type 0 where
  pub reply : Reply
  pub answers : List ℕ

-- a call with n records of these marks: where `number` refuses it, state and array stay as they were; else places past n do
abbrev pub ran_or : ℕ → (ℕ → ℕ) → ℕ → ℕ → RuleState → ℕ → List ℕ → Ran
ran_or number mark m window s n answers = record {
  reply = record { refusal = number; state = record { past = unless_refused number (state_after mark s.past n) s.past } };
  answers = unless_refused number (laid (answers_to mark s.past m window n) answers) answers;
}

-- what `run_rule` answers and leaves
abbrev pub ran : ℕ → ℕ → ℕ → List ℕ → List ℕ → ℕ → ℕ → RuleState → ℕ → List ℕ → List ℕ → Ran
ran nv w count ops operands m window s n records answers =
    ran_or (run_refusal nv w count ops operands m window n records answers) (mark_at nv w (tokens count ops operands) records) m window s n answers
