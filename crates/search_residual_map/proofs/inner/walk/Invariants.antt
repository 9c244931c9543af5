-- `search_residual_map::inner::walk` meets its contract: the row is none of the residual rows passed, and links fall, so that the walk ends. Assumes nothing.
use Rattle.search_residual_map.proofs.Walking.{Along}
use Rattle.search_residual_map.proofs.inner.walk.Given as goal

abbrev pub invariant-loop-entry : goal.invariant-loop-entry
invariant-loop-entry l = Along l.search.w l.search.count l.search.atoms.now l.search.target l.rows l.slot l.entry

abbrev pub decreases-loop-entry : goal.decreases-loop-entry
decreases-loop-entry l = l.entry
