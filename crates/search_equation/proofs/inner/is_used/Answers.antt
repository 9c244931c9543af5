-- `search_equation::inner::is_used` meets its contract: its branches are the rule's cases. Assumes nothing.
use mathlib.Core.Path.{sym, ap, ◌∙◌}
use mathlib.Core.Bool.{not}
use Prim.Native.Nat.{ℕ, ◌%◌, ◌≤◌}
use native.Mathlib.Omega.{arith}
use lib.Count.{trailing_le}
use lib.Dec.{eqb}
use Rattle.arith.proofs.Remainders.{modulus-is}
use Rattle.search_equation.specs.Equation.{zeros_of}
use Rattle.search_equation.proofs.Used.{used_zero, used-many, used-few}
use Rattle.search_equation.proofs.inner.is_used.Goals as goal

pub returns-then-p-eq0 : goal.returns-then-p-eq0
returns-then-p-eq0 c = let s = c.args in sym (used_zero s.p s.t c.if-p-eq0.true)

pub returns-then-z-gt-ZEROS_MAX : goal.returns-then-z-gt-ZEROS_MAX
returns-then-z-gt-ZEROS_MAX c =
    let s = c.args in
    let z = zeros_of s.p in
    let left = c.reduce.ensures ∙ ap (λ (m : ℕ). s.t % m) (modulus-is z (trailing_le 64 s.p)) in
    ap (λ (x : ℕ). not (eqb x 0)) left ∙ sym (used-many s.p s.t c.if-p-eq0.false c.if-z-gt-ZEROS_MAX.true)

pub returns : goal.returns
returns c =
    let s = c.args in
    let few : zeros_of s.p ≤ 8 = omega (arith, c.if-z-gt-ZEROS_MAX.false) in
    sym (used-few s.p s.t c.if-p-eq0.false few)
