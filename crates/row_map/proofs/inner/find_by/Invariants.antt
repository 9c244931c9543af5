-- `row_map::inner::find_by` meets its contract: no slot from the entry on has the row, and links fall, so that the walk ends. Assumes nothing.
use mathlib.Core.Path.{◌≡◌}
use Prim.Native.Nat.{ℕ}
use Rattle.arrays.specs.Parts.{part_at}
use Rattle.row_map.specs.Map.{home_of, homes_of}
use Rattle.row_map.proofs.Walks.{Walk}
use Rattle.row_map.proofs.inner.find_by.Given as goal

abbrev pub invariant-loop-entry : goal.invariant-loop-entry
invariant-loop-entry l = Walk (homes_of l.bits l.rows) (home_of l.bits l.row) (λ (t : ℕ). part_at 16 l.rows t ≡ l.row) l.n l.entry

abbrev pub decreases-loop-entry : goal.decreases-loop-entry
decreases-loop-entry l = l.entry
