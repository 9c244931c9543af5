-- A rule over records, of what a call is lent of both: the definitions of specs/Window and specs/Steps, of the fields. Assumes nothing.
use Rattle.std.specs.Prelude.{ℕ, List, [], ◌∷◌}
use Rattle.arrays.specs.Parts.{part_at}
use Rattle.expr.specs.declared.Token.{Token}
use Rattle.expr.specs.Formula.{tokens}
use Rattle.expr_eval.specs.Value.{value_of}
use Rattle.rule_run.specs.declared.LentRule.{LentRule}
use Rattle.rule_run.specs.declared.Records.{Records}
use Rattle.rule_run.specs.declared.RuleState.{RuleState}
use Rattle.rule_run.specs.Window.{mark_at, run_refusal, Ran, ran}
use Rattle.rule_run.specs.Steps.{Ready, RecordReply, ran_one}

-- its tokens
abbrev pub tokens_of : LentRule → List Token
tokens_of r = tokens r.token_count r.ops.now r.operands.now

-- the records' marks
abbrev pub marks : LentRule → Records → ℕ → ℕ
marks r x = mark_at x.nv x.w (tokens_of r) x.words.now

-- what a call is refused by, and what it answers and leaves
abbrev pub refusal_at : LentRule → Records → List ℕ → ℕ
refusal_at r x answers = run_refusal x.nv x.w r.token_count r.ops.now r.operands.now r.m r.window x.n x.words.now answers

abbrev pub ran_by : LentRule → RuleState → Records → List ℕ → Ran
ran_by r s x answers = ran x.nv x.w r.token_count r.ops.now r.operands.now r.m r.window s x.n x.words.now answers

-- n of the records can be run
abbrev pub IsReady : LentRule → Records → ℕ → Type 0
IsReady r x n = Ready x.nv x.w r.token_count r.ops.now r.operands.now r.m r.window n x.words.now

-- of one record of nv words of w bits: what it is refused by, the formula's value, and what `run_record` answers
module _ (r : LentRule) (nv w : ℕ) where
  abbrev pub record_refusal : List ℕ → ℕ
  record_refusal words = run_refusal nv w r.token_count r.ops.now r.operands.now r.m r.window 1 words (0 ∷ [])

  abbrev pub record_word : List ℕ → ℕ
  record_word words = value_of w (part_at nv words 0) (tokens_of r)

  abbrev pub ran_alone : RuleState → List ℕ → RecordReply
  ran_alone s words = ran_one nv w r.token_count r.ops.now r.operands.now r.m r.window s words
