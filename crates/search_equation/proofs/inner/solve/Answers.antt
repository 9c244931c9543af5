-- `search_equation::inner::solve` meets its contract: what it computes is the class of proofs/Solutions. Assumes nothing.
use mathlib.Core.Path.{◌≡◌, refl, sym, ap, ◌∙◌, subst}
use Prim.Native.Nat.{ℕ, zero, ◌-◌, ◌*◌, ◌/◌, ◌%◌, ◌^◌, ◌<◌}
use native.Mathlib.Nat.{le_of_lt, lt_of_lt_of_le, le_trans, sub-le, mod-lt}
use native.Mathlib.Omega.{arith}
use lib.Dec.{eqb}
use lib.Pow.{pow_pos}
use Rattle.arith.specs.Cong.{Cong}
use Rattle.arith.proofs.Remainders.{modulus-is}
use Rattle.search_equation.specs.Equation.{zeros_of, solves}
use Rattle.search_equation.specs.Solved.{Asked}
use Rattle.search_equation.proofs.Used.{few-zeros}
use Rattle.search_equation.proofs.Solutions.{zero_none, fewer, odd, none, one_class, class_least}
use Rattle.search_equation.proofs.inner.solve.Goals as goal

-- p has fewer zeros than the width
low : (w p t : ℕ) → Asked w p t → (p ≡ 0 → ⊥) → zeros_of p < w
low w p t a n = fewer w p t (zeros_of p) a.width (omega (arith, n)) a.p_below refl

pub returns-then-p-eq0 : goal.returns-then-p-eq0
returns-then-p-eq0 c =
    record { is = zero_none c.args.w c.args.p c.args.t c.if-p-eq0.true c.requires.t-below c.requires.is-used }

pub returns-then-reduce-ne0 : goal.returns-then-reduce-ne0
returns-then-reduce-ne0 c =
    let pos : zero < c.args.p = let n = c.if-p-eq0.false in omega arith in
    let few = low c.args.w c.args.p c.args.t c.requires c.if-p-eq0.false in
    let under_64 : zeros_of c.args.p < 64 = lt_of_lt_of_le few c.requires.width in
    let left : c.reduce.result ≡ c.args.t % 2 ^ (zeros_of c.args.p)
    = c.reduce.ensures ∙ ap (λ (m : ℕ). c.args.t % m) (modulus-is (zeros_of c.args.p) (le_of_lt under_64)) in
    let rest : c.args.t % 2 ^ (zeros_of c.args.p) ≡ 0 → ⊥ = λ e. omega (arith, left ∙ e, c.if-reduce-ne0.true) in
    record {
      is = none c.args.w c.args.p c.args.t (zeros_of c.args.p) c.requires.width pos c.requires.p_below refl rest;
    }

pub overflow_sub-bits : goal.overflow_sub-bits
overflow_sub-bits c =
    le_of_lt (low c.args.w c.args.p c.args.t c.requires c.if-p-eq0.false)

pub overflow_shr-p : goal.overflow_shr-p
overflow_shr-p c =
    lt_of_lt_of_le (low c.args.w c.args.p c.args.t c.requires c.if-p-eq0.false) c.requires.width

pub overflow_shr-t : goal.overflow_shr-t
overflow_shr-t c =
    lt_of_lt_of_le (low c.args.w c.args.p c.args.t c.requires c.if-p-eq0.false) c.requires.width

pub returns : goal.returns
returns c =
    let pos : zero < c.args.p = let n = c.if-p-eq0.false in omega arith in
    let few = low c.args.w c.args.p c.args.t c.requires c.if-p-eq0.false in
    let under_64 : zeros_of c.args.p < 64 = lt_of_lt_of_le few c.requires.width in
    let left : c.reduce.result ≡ c.args.t % 2 ^ (zeros_of c.args.p)
    = c.reduce.ensures ∙ ap (λ (m : ℕ). c.args.t % m) (modulus-is (zeros_of c.args.p) (le_of_lt under_64)) in
    let a = c.args in
    let z = zeros_of c.args.p in
    let bits = a.w - z in
    let v = c.mod_inverse_odd-inverse.result in
    let m = modulus-is bits (le_trans (sub-le a.w z) c.requires.width) in
    let d : a.t % 2 ^ z ≡ 0 = omega (arith, left, c.if-reduce-ne0.false) in
    let first = c.mod_mul-first.ensures ∙ ap (λ (n : ℕ). v * (a.t / 2 ^ z) % n) m in
    let o = odd a.w a.p a.t z c.requires.width pos c.requires.p_below refl in
    let inverse = subst (λ (n : ℕ). Cong n (a.p / 2 ^ z * v) 1) m (c.mod_inverse_odd-inverse.ensures.inverse o) in
    let most = few-zeros a.p a.t c.if-p-eq0.false c.requires.is-used d in
    let class : (f : ℕ) → solves a.w a.p a.t f ≡ eqb (f % 2 ^ bits) c.mod_mul-first.result = λ f. one_class a.w a.p a.t z c.requires.width pos c.requires.p_below refl v d inverse f ∙ ap (λ (x : ℕ). eqb (f % 2 ^ bits) x) (sym first) in
    record {
      zeros-is = refl;
      within = le_of_lt few;
      few = most;
      least = class_least a.w a.p a.t bits c.mod_mul-first.result (subst (λ (n : ℕ). n < 2 ^ bits) (sym first) (mod-lt (v * (a.t / 2 ^ z)) (pow_pos bits))) class;
      is = class;
    }
