-- What `compute_cost` answers, with the refusals of 01's table. Assumes nothing.
use Rattle.std.specs.Prelude.{List, ℕ}
use Rattle.limits.specs.Refusal.{refuse, Outcome, outcome, bad_count}
use Rattle.expr.specs.Formula.{tokens}
use Rattle.expr.specs.Answers.{too_short, not_formula}
use Rattle.expr_cost.specs.declared.Cost.{Cost}
use Rattle.expr_cost.specs.Cost.{cost_of}

-- 01, evaluator.rs, Refusals: for the cost of a formula 1, 4, 6
abbrev pub cost_refusal : ℕ → ℕ → List ℕ → List ℕ → ℕ
cost_refusal nv count ops operands =
    refuse (bad_count nv) 1
    (refuse (too_short count ops operands) 4
    (refuse (not_formula nv count ops operands) 6 0))

-- what `compute_cost` answers
abbrev pub costed : ℕ → ℕ → List ℕ → List ℕ → Outcome Cost
costed nv count ops operands = outcome (cost_refusal nv count ops operands) (cost_of (tokens count ops operands))
