-- `row_lent::inner::load_row` meets its contract: the places passed hold the words of the slot's row. Assumes nothing.
use Prim.Native.Nat.{ℕ, ◌+◌, ◌*◌}
use native.Mathlib.Omega.{arith}
use lib.ListN.{get_or}
use Rattle.arrays.specs.Parts.{part_at}
use Rattle.arrays.proofs.Fill.{filled-all}
use Rattle.arrays.proofs.Parts.{length-part, get_d_part}
use Rattle.row_lent.proofs.inner.load_row.Goals as goal

pub returns : goal.returns
returns c =
    let s = c.args in
    let long = length-part 16 s.rows.now s.slot (omega arith) in
    filled-all (λ (k : ℕ). get_or s.rows.now (16 * s.slot + k) 0) c.loop-i.row (part_at 16 s.rows.now s.slot) c.loop-i.i (omega (arith, c.loop-i.invariant.0)) (omega arith) c.loop-i.invariant.1 (λ k h. get_d_part 16 s.rows.now s.slot k (omega arith))
