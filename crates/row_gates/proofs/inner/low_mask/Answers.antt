-- `row_gates::inner::low_mask` meets its contract: 64 ones shifted down by 64 - w are w ones. Assumes nothing.
use mathlib.Core.Path.{◌≡◌, sym, ap, ◌∙◌}
use Prim.Native.Nat.{ℕ, ◌+◌, ◌-◌, ◌*◌, ◌/◌, ◌^◌}
use native.Mathlib.Nat.{suc-mul}
use native.Mathlib.Omega.{arith}
use lib.Arith.{digits_div}
use lib.Pow.{pow_pos, pow-add, suc_ones}
use Rattle.row_gates.proofs.inner.low_mask.Goals as goal

-- w + k ones, shifted down by k
shifted : (w k : ℕ) → (2 ^ (w + k) - 1) / 2 ^ k ≡ 2 ^ w - 1
shifted w k =
    let q = 2 ^ w - 1 in
    let whole : 2 ^ (w + k) ≡ q * 2 ^ k + 2 ^ k = pow-add 2 w k ∙ ap (λ (x : ℕ). x * 2 ^ k) (sym (suc_ones w)) ∙ suc-mul q (2 ^ k) in
    let p = pow_pos k in
    let e : 2 ^ (w + k) - 1 ≡ q * 2 ^ k + (2 ^ k - 1) = omega (arith, whole, p) in
    ap (λ (x : ℕ). x / 2 ^ k) e ∙ digits_div q (omega arith)

pub returns-then-w-eq0 : goal.returns-then-w-eq0
returns-then-w-eq0 c = ap (λ (k : ℕ). 2 ^ k - 1) (sym c.if-w-eq0.true)

pub returns-else-w-eq0 : goal.returns-else-w-eq0
returns-else-w-eq0 c =
    let w = c.args.w in
    let e : 64 ≡ w + (64 - w) = omega (arith, c.requires) in
    ap (λ (n : ℕ). (2 ^ n - 1) / 2 ^ (64 - w)) e ∙ shifted w (64 - w)
