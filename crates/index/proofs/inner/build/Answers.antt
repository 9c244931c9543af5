-- `index::inner::build` meets its contract: maps, trials, and then the order list in the same area. Assumes nothing.
use Rattle.std.proofs.Common.{rules}
use Rattle.index.proofs.WholeLaws.{ready-start, made-is}
use Rattle.index.proofs.inner.build.Goals as goal

pub try_gates-tally-requires : goal.try_gates-tally-requires
try_gates-tally-requires c =
    let a = c.args in
    let bits = c.map_bits-bits in
    ready-start a.asked.w a.asked.count a.asked.limit bits.result a.atoms.now a.work.now a.pairs.now a.listed.now a.order.now _ c.requires bits.ensures.0 bits.ensures.1
    c.prepare.auto.work c.prepare.ensures

pub returns : goal.returns
returns c =
    let a = c.args in
    made-is a.asked.w a.asked.count a.asked.limit c.map_bits-bits.result a.atoms.now a.pairs.now a.listed.now a.order.now _ _ _ _ c.try_gates-tally.result
    (search rules) (search rules) c.try_gates-tally.ensures.tried c.sort_order.ensures
