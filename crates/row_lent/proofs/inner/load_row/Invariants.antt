-- `row_lent::inner::load_row` meets its contract: the places passed hold the words of the slot's row. Assumes nothing.
use mathlib.Core.Path.{◌≡◌}
use Prim.Native.Nat.{ℕ, ◌+◌}
use lib.ListN.{length, get_or}
use Rattle.arrays.proofs.Fill.{Filled}
use Rattle.row_lent.proofs.inner.load_row.Given as goal

abbrev pub invariant-loop-i : goal.invariant-loop-i
invariant-loop-i l = (length l.row ≡ 16) × Filled (λ (k : ℕ). get_or l.rows (l.base + k) 0) l.row l.i
