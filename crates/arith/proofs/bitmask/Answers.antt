-- `arith::bitmask` meets its contract: below 64 the shift loses nothing. Assumes nothing.
use Rattle.std.proofs.Common.{◌≡◌, ℕ, ◌-◌, ◌^◌, ◌≤◌, min, sym, ap, ◌∙◌, subst, arith, pow_pos}
use Rattle.arith.proofs.Remainders.{shl_one}
use Rattle.arith.proofs.bitmask.Goals as goal

pub overflow_sub-result : goal.overflow_sub-result
overflow_sub-result c = subst (λ (x : ℕ). 1 ≤ x) (sym (shl_one 64 c.if-w-lt64.true)) (pow_pos c.args.w)

pub returns-then-w-lt64 : goal.returns-then-w-lt64
returns-then-w-lt64 c =
    let h = c.if-w-lt64.true in
    let e : c.args.w ≡ min c.args.w 64 = omega arith in
    ap (λ (x : ℕ). x - 1) (shl_one 64 h) ∙ ap (λ (k : ℕ). 2 ^ k - 1) e

pub returns-else-w-lt64 : goal.returns-else-w-lt64
returns-else-w-lt64 c =
    let h = c.if-w-lt64.false in
    let e : 64 ≡ min c.args.w 64 = omega arith in
    ap (λ (k : ℕ). 2 ^ k - 1) e
