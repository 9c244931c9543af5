-- `arith::reduce` meets its contract: a mask takes the remainder. Assumes nothing.
use Rattle.std.proofs.Common.{ℕ, min, ap, ◌∙◌}
use lib.Bits.{bit_and, and_mask}
use Rattle.arith.proofs.reduce.Goals as goal

pub returns : goal.returns
returns c =
    let s = c.args in
    ap (λ (m : ℕ). bit_and s.x m) c.bitmask.ensures ∙ and_mask s.x (min s.w 64)
