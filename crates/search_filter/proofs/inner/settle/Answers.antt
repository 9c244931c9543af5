-- `search_filter::inner::settle` meets its contract: where no key is left, the tail has the next place. Assumes nothing.
use Rattle.search_filter.proofs.Keys.{settled_key}
use Rattle.search_filter.proofs.inner.settle.Goals as goal

pub returns-then-t-gt0 : goal.returns-then-t-gt0
returns-then-t-gt0 c =
    let a = c.args in
    settled_key a.class c.requires.1 a.sorted.now.n a.sorted.now.rows.now a.sorted.now.order.now a.s.at c.settle_keys-t.result c.if-t-gt0.true c.settle_keys-t.ensures
