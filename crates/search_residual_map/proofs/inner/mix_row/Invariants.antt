-- `search_residual_map::inner::mix_row` meets its contract: the sum so far and the words to come give the whole. Assumes nothing.
use Rattle.std.proofs.Common.{◌≡◌, ◌*◌, drop}
use Rattle.arrays.specs.Parts.{part_at}
use Rattle.search_residual_map.specs.Map.{mixed_from, mixed}
use Rattle.search_residual_map.proofs.inner.mix_row.Given as goal

abbrev pub invariant-loop-i : goal.invariant-loop-i
invariant-loop-i l = mixed_from l.sum l.power (drop (2 * l.i) (part_at 16 l.rows l.slot)) ≡ mixed (part_at 16 l.rows l.slot)
