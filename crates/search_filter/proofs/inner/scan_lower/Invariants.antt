-- `search_filter::inner::scan_lower` meets its contract: up to place i the words before place a are below the key, those from a on are not. Assumes nothing.
use Rattle.search_filter.specs.Places.{word_at, Reached}
use Rattle.search_filter.proofs.inner.scan_lower.Given as goal

abbrev pub invariant-loop-i : goal.invariant-loop-i
invariant-loop-i l = Reached (word_at l.rows l.order) l.i l.from l.key l.a
