-- `search_filter::inner::lower_between` meets its contract: what is looked for lies between `a` and `b`. Assumes nothing.
use Prim.Native.Nat.{◌-◌}
use Rattle.search_filter.specs.Places.{word_at}
use Rattle.search_filter.proofs.Halving.{Seek}
use Rattle.search_filter.proofs.inner.lower_between.Given as goal

abbrev pub invariant-loop-b : goal.invariant-loop-b
invariant-loop-b l = Seek (word_at l.rows l.order) l.n l.from l.key l.a l.b

abbrev pub decreases-loop-b : goal.decreases-loop-b
decreases-loop-b l = l.b - l.a
