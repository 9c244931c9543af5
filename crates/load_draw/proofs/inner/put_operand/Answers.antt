-- `load_draw::inner::put_operand` meets its contract: a leaf draws its operand, any other token has 0. Assumes nothing.
use mathlib.Core.Path.{sym, ap, ap₂, ◌∙◌}
use Prim.Native.Nat.{ℕ, ◌%◌}
use lib.ListN.{set}
use Rattle.arith.proofs.Remainders.{modulus-is}
use Rattle.probe_points.specs.declared.Draw.{Draw}
use Rattle.load_draw.proofs.Drawing.{state-constant, state-variable, state_other, operand_constant, operand_variable, operand_other}
use native.Mathlib.Omega.{arith}
use Rattle.load_draw.proofs.inner.put_operand.Goals as goal

pub returns-then-o-gt1 : goal.returns-then-o-gt1
returns-then-o-gt1 c = let a = c.args in record {
  value = sym (state_other a.o a.s (omega arith));
  operands_after = ap (λ (x : ℕ). set a.operands.now a.i x) (sym (operand_other a.nv a.w a.o a.s (omega arith)));
}

pub returns-then-o-eq0 : goal.returns-then-o-eq0
returns-then-o-eq0 c = let a = c.args in let drew = c.splitmix64-x.ensures in record {
  value = ap (λ (d : Draw). d.state) drew ∙ sym (state-constant a.o a.s c.if-o-eq0.true);
  operands_after = ap (λ (x : ℕ). set a.operands.now a.i x) (c.reduce.ensures ∙ ap₂ (λ (d : Draw) (m : ℕ). d.word % m) drew (modulus-is a.w (omega arith)) ∙ sym (operand_constant a.nv a.w a.o a.s c.if-o-eq0.true));
}

pub returns : goal.returns
returns c = let a = c.args in let drew = c.splitmix64-x.ensures in record {
  value = ap (λ (d : Draw). d.state) drew ∙ sym (state-variable a.o a.s (omega arith));
  operands_after = ap (λ (x : ℕ). set a.operands.now a.i x) (ap (λ (d : Draw). d.word % a.nv) drew ∙ sym (operand_variable a.nv a.w a.o a.s (omega arith)));
}
