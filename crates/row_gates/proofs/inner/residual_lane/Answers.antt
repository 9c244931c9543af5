-- `row_gates::inner::residual_lane` meets its contract, gate by gate. Assumes nothing.
use mathlib.Core.Path.{sym, ap, ◌∙◌}
use Prim.Native.Nat.{ℕ, ◌%◌}
use lib.Bits.{bit_xor}
use Rattle.arith.specs.Word.{sub_of}
use Rattle.arith.proofs.Remainders.{modulus-is}
use Rattle.row_gates.specs.Gates.{residual_of}
use Rattle.row_gates.specs.declared.Gate.{Gate}
use Rattle.row_gates.proofs.inner.residual_lane.Goals as goal

pub returns-in-Xor : goal.returns-in-Xor
unfolding residual_of
returns-in-Xor c =
    let s = c.args in
    c.reduce.ensures
    ∙ ap (λ (m : ℕ). bit_xor s.target s.a % m) (modulus-is s.w c.requires)
    ∙ sym (ap (λ (g : Gate). residual_of g s.w s.target s.a) c.in-Xor.is)

pub returns-in-Add : goal.returns-in-Add
unfolding residual_of
returns-in-Add c =
    let s = c.args in
    c.mod_sub.ensures
    ∙ ap (λ (m : ℕ). sub_of m s.target s.a) (modulus-is s.w c.requires)
    ∙ sym (ap (λ (g : Gate). residual_of g s.w s.target s.a) c.in-Add.is)

pub returns-in-And : goal.returns-in-And
unfolding residual_of
returns-in-And c = rw c.in-And.is

pub returns-in-Or : goal.returns-in-Or
unfolding residual_of
returns-in-Or c = rw c.in-Or.is

pub returns-in-Mul : goal.returns-in-Mul
unfolding residual_of
returns-in-Mul c = rw c.in-Mul.is
