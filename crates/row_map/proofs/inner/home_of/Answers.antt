-- `row_map::inner::home_of` meets its contract: the lowest bits of a number are its remainder. Assumes nothing.
use mathlib.Core.Path.{◌≡◌, sym, ap, ◌∙◌, subst}
use Prim.Native.Nat.{ℕ, ◌%◌, ◌^◌, ◌<◌, ◌≤◌}
use native.Mathlib.Nat.{mod-lt}
use native.Mathlib.Omega.{arith}
use lib.Pow.{pow_pos, pow_mono}
use Rattle.arith.specs.Word.{modulus}
use Rattle.arith.proofs.Remainders.{modulus-is}
use Rattle.row_map.proofs.inner.home_of.Goals as goal

lowest : (print bits home : ℕ) → bits ≤ 31 → home ≡ print % modulus bits → (home ≡ print % 2 ^ bits) × (home < 2 ^ bits)
lowest print bits home low e =
    let is : home ≡ print % 2 ^ bits = e ∙ ap (λ (m : ℕ). print % m) (modulus-is bits (omega (arith, low))) in
    (is, subst (λ (h : ℕ). h < 2 ^ bits) (sym is) (mod-lt print (pow_pos bits)))

pub overflow_cast-result : goal.overflow_cast-result
overflow_cast-result c =
    let few = pow_mono {i = c.args.bits} {j = 31} c.requires in
    omega (arith, (lowest c.args.print c.args.bits c.reduce.result c.requires c.reduce.ensures).1)

pub returns : goal.returns
returns c = lowest c.args.print c.args.bits c.reduce.result c.requires c.reduce.ensures
