-- `arith::inverse_64` meets its contract: m is right in 3 bits, and the five steps make it 6, 12, 24, 48 and 64. Assumes nothing.
use Rattle.std.proofs.Common.{arith}
use Rattle.arith.proofs.Congruence.{cong_less}
use Rattle.arith.proofs.Newton.{odd_start}
use Rattle.arith.proofs.inverse_64.Goals as goal

pub returns : goal.returns
returns c =
    let b3 = odd_start c.args.m c.requires in
    let b6 = c.newton_step.ensures 3 (omega arith) (omega arith) b3 in
    let b12 = c.newton_step-2.ensures 6 (omega arith) (omega arith) b6 in
    let b24 = c.newton_step-3.ensures 12 (omega arith) (omega arith) b12 in
    let b48 = c.newton_step-4.ensures 24 (omega arith) (omega arith) b24 in
    c.newton_step-5.ensures 32 (omega arith) (omega arith) (cong_less {k = 32} {n = 48} (omega arith) b48)
