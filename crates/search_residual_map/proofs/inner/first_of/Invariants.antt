-- `search_residual_map::inner::first_of` meets its contract: the entry and the slot are the first of the rows passed. Assumes nothing.
use Rattle.search_residual_map.specs.Map.{Best}
use Rattle.search_residual_map.proofs.inner.first_of.Given as goal

abbrev pub invariant-loop-slot : goal.invariant-loop-slot
invariant-loop-slot l = Best l.search.w l.search.count l.search.atoms.now l.search.target l.rows l.slot l.beaten l.at l.found
