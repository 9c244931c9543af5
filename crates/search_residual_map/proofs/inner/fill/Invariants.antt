-- `search_residual_map::inner::fill` meets its contract: the map holds the residual rows passed. Assumes nothing.
use Rattle.search_residual_map.specs.Map.{Wanted}
use Rattle.search_residual_map.proofs.inner.fill.Given as goal

abbrev pub invariant-loop-t : goal.invariant-loop-t
invariant-loop-t l = Wanted l.search.w l.search.count l.search.atoms.now l.search.target l.work l.t
