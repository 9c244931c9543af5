-- What the contracts of src/inner.rt cite, beside specs/Window. Assumes nothing.
use Rattle.std.specs.Prelude.{◌≡◌, ℕ, ◌*◌, ◌≤◌, true, List, [], ◌∷◌, length, slice_index, Result, Ok, Err}
use Rattle.limits.specs.Refusal.{number_of}
use Rattle.limits.specs.declared.Refusal.{Refusal}
use Rattle.arrays.specs.Lists.{laid}
use Rattle.expr.specs.Formula.{tokens, is_formula}
use Rattle.rule_run.specs.declared.RuleState.{RuleState}
use Rattle.rule_run.specs.declared.inner.RecordAnswer.{RecordAnswer}
use Rattle.rule_run.specs.Window.{answers_to, state_after, Ran, ran}

-- what a run asks of an input that no number refuses; of the answers each step asks for itself
pub record Ready (nv w count : ℕ) (ops operands : List ℕ) (m window n : ℕ) (records : List ℕ) : Type 0 where
  pub some : 1 ≤ nv
  pub few : nv ≤ 6
  pub narrow : w ≤ 64
  pub formula : is_formula nv (tokens count ops operands) ≡ true
  pub least : 1 ≤ m
  pub reach : m ≤ window
  pub most : window ≤ 64
  pub fits : nv * n ≤ length records

-- k records are answered, from the state s and over the array `old`, with these marks; `past` is the state after them
pub record Fed (mark : ℕ → ℕ) (s m window : ℕ) (old : List ℕ) (k : ℕ) (answers : List ℕ) (past : ℕ) : Type 0 where
  pub bits : (i : ℕ) → mark i ≤ 1
  pub fits : k ≤ length old
  pub answered : answers ≡ laid (answers_to mark s m window k) old
  pub state : past ≡ state_after mark s k

-- what a caller has after a call with one record: also its answer, 0 beside a refusal
pub record RecordReply : Type 0 where
  pub refusal : ℕ
  pub answer : ℕ
  pub state : RuleState

abbrev pub of_record : RecordAnswer → RecordReply
of_record x = record { refusal = 0; answer = x.answer; state = x.state }

abbrev pub record_replied : RuleState → Result RecordAnswer Refusal → RecordReply
record_replied s (Ok x) = of_record x
record_replied s (Err r) = record { refusal = number_of r; answer = 0; state = s }

-- of a call with one record and one place for its answer: the reply and that answer
abbrev pub record_answer : Ran → RecordReply
record_answer x = record { refusal = x.reply.refusal; answer = slice_index x.answers 0; state = x.reply.state }

-- what `run_record` answers: as `run_rule` does with that record, over a place that holds 0
abbrev pub ran_one : ℕ → ℕ → ℕ → List ℕ → List ℕ → ℕ → ℕ → RuleState → List ℕ → RecordReply
ran_one nv w count ops operands m window s words = record_answer (ran nv w count ops operands m window s 1 words (0 ∷ []))
