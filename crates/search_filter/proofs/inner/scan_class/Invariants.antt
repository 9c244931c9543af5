-- `search_filter::inner::scan_class` meets its contract: none is of the class up to place i. Assumes nothing.
use Rattle.search_filter.specs.Places.{Skips}
use Rattle.search_filter.specs.Sweeps.{in_class}
use Rattle.search_filter.proofs.inner.scan_class.Given as goal

abbrev pub invariant-loop-i : goal.invariant-loop-i
invariant-loop-i l = Skips (in_class l.class l.rows) l.order l.at l.i
