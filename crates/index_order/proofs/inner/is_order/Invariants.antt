-- `index_order::inner::is_order` meets its contract: the entries passed are below n and ascend, and `word` and `last` are the last one's. Assumes nothing.
use Rattle.std.proofs.Common.{◌+◌}
use Rattle.index_order.proofs.Tested.{Passed}
use Rattle.index_order.proofs.inner.is_order.Given as goal

abbrev pub invariant-loop-i : goal.invariant-loop-i
invariant-loop-i l = Passed l.rows l.order l.n l.word (l.last + 1) l.i
