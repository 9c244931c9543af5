-- `search_candidates::inner::collect` meets its contract: at each turn the list holds what is kept of the places before the sweep's. Assumes nothing.
use Prim.Native.Nat.{◌-◌}
use Rattle.search_candidates.proofs.Filling.{Filling}
use Rattle.search_candidates.proofs.inner.collect.Given as goal

abbrev pub invariant-loop-s : goal.invariant-loop-s
invariant-loop-s l = Filling l.class l.n l.pairs.rows.now l.pairs.order.now l.initial.list l.list l.s l.k

abbrev pub decreases-loop-s : goal.decreases-loop-s
decreases-loop-s l = l.n - l.s.at
