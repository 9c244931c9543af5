-- `arith::newton_step` meets its contract: the second factor and m × x sum to 2, so `newton_doubles` applies. Assumes nothing.
use Rattle.std.proofs.Common.{ℕ, ◌+◌, ◌*◌, ◌%◌, ◌^◌, sym, ap, ◌∙◌}
use native.Mathlib.Nat.{add-mod-mod}
use Rattle.arith.specs.Cong.{Cong}
use Rattle.arith.proofs.Congruence.{cong_trans, cong_mul, cong_refl, cong_eq, cong_mod, cong_less}
use Rattle.arith.proofs.Newton.{newton_doubles}
use Rattle.arith.proofs.newton_step.Goals as goal

pub returns : goal.returns
returns c j one two h =
    let s = c.args in
    let x = s.x in
    let m = s.m in
    let y = c.wrapping_sub_u64.result in
    let sum : Cong (2 ^ 64) (y + m * x) 2
    = record { same = sym (add-mod-mod y (m * x) (2 ^ 64)) ∙ ap (λ (p : ℕ). (y + p) % 2 ^ 64) (sym c.wrapping_mul.ensures) ∙ c.wrapping_sub_u64.ensures.value } in
    let last : Cong (2 ^ 64) c.wrapping_mul-2.result (x * y)
    = cong_trans (cong_eq (2 ^ 64) c.wrapping_mul-2.ensures) (cong_mod (2 ^ 64) (x * y)) in
    cong_trans (cong_mul (cong_refl (2 ^ (j + j)) m) (cong_less two last)) (newton_doubles j m x y one h (cong_less two sum))
