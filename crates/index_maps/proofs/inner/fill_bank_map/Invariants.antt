-- `index_maps::inner::fill_bank_map` meets its contract: the map holds the rows passed. Assumes nothing.
use Rattle.row_map.specs.Map.{Held}
use Rattle.index_maps.specs.Area.{bank_bits}
use Rattle.index_maps.proofs.inner.fill_bank_map.Given as goal

abbrev pub invariant-loop-i : goal.invariant-loop-i
invariant-loop-i l = Held l.map l.atoms bank_bits l.i
