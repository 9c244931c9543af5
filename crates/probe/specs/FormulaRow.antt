-- The row of a formula at the sixteen points. Assumes nothing.
use Rattle.std.specs.Prelude.{List, map, ℕ}
use Rattle.limits.specs.Refusal.{refuse, Outcome, outcome, bad_count, bad_width}
use Rattle.expr.specs.declared.Token.{Token}
use Rattle.expr.specs.Formula.{tokens}
use Rattle.expr.specs.Answers.{too_short, not_formula}
use Rattle.expr_eval.specs.Value.{value_of}
use Rattle.probe_points.specs.declared.Point.{Point}

-- 01's row of a formula: its value at each point. 01, Points: places past the variable count are ignored (`row_alike` of proofs/Alike)
unfoldable pub row_of : ℕ → List Point → List Token → List ℕ
unfolding value_of
row_of w points ts = map (λ (p : Point). value_of w p.words ts) points

-- 01, evaluator.rs, Refusals 1, 2, 4, 6
abbrev pub probe_refusal : ℕ → ℕ → ℕ → List ℕ → List ℕ → ℕ
probe_refusal nv w count ops operands =
    refuse (bad_count nv) 1
    (refuse (bad_width w) 2
    (refuse (too_short count ops operands) 4
    (refuse (not_formula nv count ops operands) 6 0)))

-- what `probe` answers
abbrev pub probed : ℕ → ℕ → List Point → ℕ → List ℕ → List ℕ → Outcome (List ℕ)
probed nv w points count ops operands =
    outcome (probe_refusal nv w count ops operands) (row_of w points (tokens count ops operands))
