-- `compare_logs::record_word` is safe: a remainder is below what it was divided by. Assumes nothing.
use Prim.Native.Nat.{◌%◌, ◌<◌}
use native.Mathlib.Nat.{mod-lt}
use native.Mathlib.Omega.{arith}
use Rattle.compare_logs.proofs.record_word.Goals as goal

pub overflow_add-base : goal.overflow_add-base
overflow_add-base c =
    let below : c.args.place % c.args.said < c.args.said = mod-lt c.args.place (omega arith) in
    omega (arith, c.requires.0, c.requires.1, below)
