-- `search_filter::inner::first_place` meets its contract: the sweep begins at place 0. Assumes nothing.
use Rattle.search_filter.proofs.Keys.{sweeping-start}
use Rattle.search_filter.proofs.inner.first_place.Goals as goal

pub settle-requires : goal.settle-requires
settle-requires c =
    let a = c.args in
    (c.requires.0, c.requires.1, sweeping-start a.class c.requires.1 a.sorted.now.n a.sorted.now.rows.now a.sorted.now.order.now c.first_sweep.result c.first_sweep.ensures)
