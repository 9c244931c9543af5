-- `row_gates::inner::residual_row` meets its contract: the places passed hold what `residual_of` gives there. Assumes nothing.
use mathlib.Core.Path.{◌≡◌}
use Prim.Native.Nat.{ℕ}
use lib.ListN.{length, get_or}
use Rattle.arrays.proofs.Fill.{Filled}
use Rattle.row_gates.specs.Gates.{residual_of}
use Rattle.row_gates.proofs.inner.residual_row.Given as goal

abbrev pub invariant-loop-i : goal.invariant-loop-i
invariant-loop-i l =
    (length l.row ≡ 16) × Filled (λ (k : ℕ). residual_of l.g l.w (get_or l.target k 0) (get_or l.a k 0)) l.row l.i
