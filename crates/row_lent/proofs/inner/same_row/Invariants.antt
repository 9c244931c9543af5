-- `row_lent::inner::same_row` meets its contract: the places passed hold the words of the row. Assumes nothing.
use mathlib.Core.Path.{◌≡◌}
use Prim.Native.Nat.{ℕ, ◌+◌, ◌<◌}
use lib.ListN.{get_or}
use Rattle.row_lent.proofs.inner.same_row.Given as goal

abbrev pub invariant-loop-word : goal.invariant-loop-word
invariant-loop-word l = (k : ℕ) → k < l.word → get_or l.rows (l.base + k) 0 ≡ get_or l.row k 0
