-- `expr_rows::inner::column` meets its contract: the places passed hold the reduced words. Assumes nothing.
use mathlib.Core.Path.{◌≡◌}
use Prim.Native.Nat.{ℕ, ◌+◌, ◌*◌, ◌%◌, ◌^◌}
use lib.ListN.{length, get_or}
use Rattle.arrays.proofs.Fill.{Filled}
use Rattle.expr_rows.proofs.inner.column.Given as goal

abbrev pub invariant-loop-j : goal.invariant-loop-j
invariant-loop-j l =
    (length l.row ≡ 16) × Filled (λ (k : ℕ). get_or l.records (l.nv * k + l.i) 0 % 2 ^ l.w) l.row l.j
