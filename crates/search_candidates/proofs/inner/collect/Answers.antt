-- `search_candidates::inner::collect` meets its contract: at each turn the list holds what is kept of the places before the sweep's. Assumes nothing.
use Rattle.search_candidates.proofs.Filling.{filling_start, filling_more, filling_end}
use Rattle.search_candidates.proofs.inner.collect.Goals as goal

pub loop-s-init : goal.loop-s-init
loop-s-init c =
    let a = c.args in
    filling_start a.class a.pairs.now.n a.pairs.now.rows.now a.pairs.now.order.now a.list.now c.requires.0.ordered.order-fit c.requires.2 c.first_place-s.result c.first_place-s.ensures

pub loop-s-preserved : goal.loop-s-preserved
loop-s-preserved c =
    let l = c.loop-s in
    let a = c.args in
    filling_more a.class a.pairs.now.n a.pairs.now.rows.now a.pairs.now.order.now a.list.now c.requires.0.ordered.order-fit c.requires.2 l.list l.s l.k l.invariant _ c.list_run-end.result c.next_from-s.result c.loop-s-test.true c.list_run-end.ensures c.next_from-s.ensures

pub returns : goal.returns
returns c =
    let l = c.loop-s in
    let a = c.args in
    filling_end a.class a.pairs.now.n a.pairs.now.rows.now a.pairs.now.order.now a.list.now c.requires.0.ordered.order-fit c.requires.2 l.list l.s l.k l.invariant c.loop-s-test.false
