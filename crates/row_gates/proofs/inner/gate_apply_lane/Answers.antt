-- `row_gates::inner::gate_apply_lane` meets its contract, gate by gate. Assumes nothing.
use mathlib.Core.Path.{◌≡◌, sym, ap, ◌∙◌}
use Prim.Native.Nat.{ℕ, ◌+◌, ◌-◌, ◌*◌, ◌%◌, ◌^◌, ◌≤◌}
use lib.Bits.{bit_and, bit_or, bit_xor, and_mask}
use Rattle.arith.specs.Word.{modulus}
use Rattle.arith.proofs.Remainders.{modulus-is}
use Rattle.row_gates.specs.Gates.{joined, gate_of}
use Rattle.row_gates.specs.declared.Gate.{Gate}
use Rattle.row_gates.specs.declared.Gate.TheVariants.{And, Or, Xor, Add, Mul}
use Rattle.row_gates.proofs.inner.gate_apply_lane.Goals as goal

-- each arm reduces what its gate joins: by a mask, or as `mod_add` and `mod_mul` do
arm : (g k : Gate) (w a b r : ℕ) → g ≡ k → r ≡ joined k a b % 2 ^ w → r ≡ gate_of g w a b
unfolding gate_of
arm g k w a b r e p = p ∙ sym (ap (λ (x : Gate). gate_of x w a b) e)

masked : (x mask w : ℕ) → mask ≡ 2 ^ w - 1 → bit_and x mask ≡ x % 2 ^ w
masked x mask w e = ap (bit_and x) e ∙ and_mask x w

reduced : (x w r : ℕ) → w ≤ 64 → r ≡ x % modulus w → r ≡ x % 2 ^ w
reduced x w r h e = e ∙ ap (λ (m : ℕ). x % m) (modulus-is w h)

pub returns-in-And : goal.returns-in-And
returns-in-And c =
    let a = c.args in
    arm a.g And a.w a.a a.b _ c.in-And.is (masked (bit_and a.a a.b) c.low_mask.result a.w c.low_mask.ensures)

pub returns-in-Or : goal.returns-in-Or
returns-in-Or c =
    let a = c.args in
    arm a.g Or a.w a.a a.b _ c.in-Or.is (masked (bit_or a.a a.b) c.low_mask-in-Or.result a.w c.low_mask-in-Or.ensures)

pub returns-in-Xor : goal.returns-in-Xor
returns-in-Xor c =
    let a = c.args in
    arm a.g Xor a.w a.a a.b _ c.in-Xor.is (masked (bit_xor a.a a.b) c.low_mask-in-Xor.result a.w c.low_mask-in-Xor.ensures)

pub returns-in-Add : goal.returns-in-Add
returns-in-Add c =
    let a = c.args in
    arm a.g Add a.w a.a a.b _ c.in-Add.is (reduced (a.a + a.b) a.w c.mod_add.result c.requires c.mod_add.ensures)

pub returns-in-Mul : goal.returns-in-Mul
returns-in-Mul c =
    let a = c.args in
    arm a.g Mul a.w a.a a.b _ c.in-Mul.is (reduced (a.a * a.b) a.w c.mod_mul.result c.requires c.mod_mul.ensures)
