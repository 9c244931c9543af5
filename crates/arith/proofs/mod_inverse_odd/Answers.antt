-- `arith::mod_inverse_odd` meets its contract: an inverse at 64 bits, reduced, is one at k. Assumes nothing.
use Rattle.std.proofs.Common.{ℕ, ◌<◌, min, sym, refl, subst, mod-lt, arith, pow_pos}
use Rattle.arith.specs.Word.{modulus}
use Rattle.arith.proofs.Remainders.{width_le}
use Rattle.arith.proofs.Congruence.{cong_trans, cong_mul, cong_refl, cong_eq, cong_mod, cong_less}
use Rattle.arith.proofs.mod_inverse_odd.Goals as goal

pub returns-then-m-eq0 : goal.returns-then-m-eq0
returns-then-m-eq0 c =
    record { below = pow_pos (min c.args.k 64); inverse = λ o. absurd (omega arith); even = λ e. refl }

pub returns : goal.returns
returns c =
    let s = c.args in
    let n = modulus s.k in
    let x = c.inverse_64.result in
    let e = c.reduce.ensures in
    record {
      below = subst (λ (r : ℕ). r < n) (sym e) (mod-lt x (pow_pos (min s.k 64)));
      inverse = λ o. cong_trans (cong_mul (cong_refl n s.m) (cong_trans (cong_eq n e) (cong_mod n x))) (cong_less (width_le s.k) c.inverse_64.ensures);
      even = λ z. absurd (c.if-m-eq0.false z);
    }
