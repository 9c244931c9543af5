-- `probe::row_at_points` meets its contract: the places passed hold the value at their points. Assumes nothing.
use mathlib.Core.Path.{◌≡◌}
use Prim.Native.Nat.{ℕ}
use lib.ListN.{length, get_or}
use Rattle.arrays.proofs.Fill.{Filled}
use Rattle.expr.specs.Formula.{tokens}
use Rattle.probe.specs.FormulaRow.{row_of}
use Rattle.probe.proofs.row_at_points.Given as goal

abbrev pub invariant-loop-k : goal.invariant-loop-k
invariant-loop-k l =
    (length l.row ≡ 16) × Filled (λ (j : ℕ). get_or (row_of l.w l.points (tokens l.count l.ops l.operands)) j 0) l.row l.k
