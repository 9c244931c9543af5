-- `arith::mod_not` meets its contract: a masked word is at most the mask. Assumes nothing.
use Rattle.std.proofs.Common.{ℕ, ◌-◌, min, ap, ◌∙◌}
use lib.Bits.{bit_and, and_le_r, and_mask}
use Rattle.arith.specs.Word.{modulus}
use Rattle.arith.proofs.mod_not.Goals as goal

pub overflow_sub-result : goal.overflow_sub-result
overflow_sub-result c = and_le_r c.args.v c.bitmask-mask.result

pub returns : goal.returns
returns c =
    let s = c.args in
    ap (λ (m : ℕ). m - bit_and s.v m) c.bitmask-mask.ensures
    ∙ ap (λ (x : ℕ). modulus s.w - 1 - x) (and_mask s.v (min s.w 64))
