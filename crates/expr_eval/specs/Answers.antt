-- What `eval` answers, with the refusals of 01's table. Assumes nothing.
use Rattle.std.specs.Prelude.{◌||◌, List, ℕ, ltb, length}
use Rattle.limits.specs.Refusal.{refuse, bad_count, bad_width, Outcome, outcome}
use Rattle.expr.specs.Formula.{tokens}
use Rattle.expr.specs.Answers.{too_short, not_formula}
use Rattle.expr_eval.specs.Value.{value_of}

-- 01, evaluator.rs, Refusals 1, 2, 4, 6. The input words are lent too: fewer than nv of them are refused 4
abbrev pub eval_refusal : ℕ → ℕ → ℕ → List ℕ → List ℕ → List ℕ → ℕ
eval_refusal nv w count ops operands words =
    refuse (bad_count nv) 1
    (refuse (bad_width w) 2
    (refuse (too_short count ops operands || ltb (length words) nv) 4
    (refuse (not_formula nv count ops operands) 6 0)))

-- what `eval` answers
abbrev pub evaluated : ℕ → ℕ → ℕ → List ℕ → List ℕ → List ℕ → Outcome ℕ
evaluated nv w count ops operands words =
    outcome (eval_refusal nv w count ops operands words) (value_of w words (tokens count ops operands))

-- what is answered where only the formula is left to be tested: its value, or 6
abbrev pub checked : ℕ → ℕ → ℕ → List ℕ → List ℕ → List ℕ → Outcome ℕ
checked nv w count ops operands words =
    outcome (refuse (not_formula nv count ops operands) 6 0) (value_of w words (tokens count ops operands))
