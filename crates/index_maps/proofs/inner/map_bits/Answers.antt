-- `index_maps::inner::map_bits` meets its contract: there are 2^bits heads, and room for them. Assumes nothing.
use native.Mathlib.Omega.{arith}
use Rattle.index_maps.specs.Area.{head_room}
use Rattle.index_maps.proofs.AreaLaws.{few_bits}
use Rattle.index_maps.proofs.inner.map_bits.Goals as goal

pub returns : goal.returns
returns c =
    let x = c.ilog2.ensures.power_le in
    let m = c.max.ensures in
    (few_bits c.ilog2.result (head_room c.args.limit) (omega arith) (omega arith), omega arith)
