-- All solutions of p × f = t modulo 2^w: with p = 2^z × o the equation is o × f = t / 2^z modulo 2^(w - z), and o, being odd, has an inverse.
-- Assumes nothing.
use mathlib.Core.Path.{◌≡◌, refl, sym, ap, ◌∙◌, subst}
use mathlib.Core.Logic.{◌⊎◌, inl, inr}
use mathlib.Core.Bool.{true, false, not}
use Prim.Native.Nat.{ℕ, zero, suc, ◌+◌, ◌-◌, ◌*◌, ◌/◌, ◌%◌, ◌^◌, ◌≤◌, ◌<◌}
use native.Mathlib.Nat.{add_comm, add-zero, mul_comm, mul_assoc, mul-mod_right, mod-lt, mod-le, mod-eq_of_lt, le_of_lt, lt_of_lt_of_le, add-sub_of_le, mul-le-mul_right, zero-mul, suc-mul}
use native.Mathlib.Decide.{ℕ_discrete}
use native.Mathlib.Omega.{arith}
use borrow.Author.Tests.{eq-eqb, ne_eqb, eqb-true, eqb-false, leb-false, not-true}
use lib.Count.{trailing_le}
use lib.Dec.{eqb}
use lib.Pow.{pow_pos, pow_mono, pow-add, shr_lt, split}
use Rattle.arith.specs.Cong.{Cong}
use Rattle.arith.proofs.Congruence.{cong_trans, cong_eq, cong_multiple, cong_less, cong_scale, cong_unscale}
use Rattle.arith.proofs.Newton.{times_inverse, of_inverse, odd_has_inverse}
use Rattle.search_equation.specs.Equation.{zeros_of, used, solves, solvable, running_value}
use Rattle.std.specs.Prelude.{Option, Some, None}
use Rattle.search_equation.specs.declared.inner.Class.{Class}
use Rattle.search_equation.specs.Solved.{IsClass, IsNone, Solved}
use Rattle.search_equation.specs.Facts.{Least, KeysBySteps, NoSolution}
use Rattle.search_equation.proofs.Zeros.{OddPart, trailing_zeros_odd, shifted, zeros_lt, zeros-most, zeros_of_none}
use Rattle.limits.proofs.Refusals.{le_or_lt, true_not_false}
use Rattle.search_equation.proofs.Used.{used_zero}

-- two equations that follow from each other have one test
same_test : (a b c d : ℕ) → (a ≡ b → c ≡ d) → (c ≡ d → a ≡ b) → eqb a b ≡ eqb c d
same_test a b c d to from =
    elim (ℕ_discrete a b) [
      | yes e ↦ eq-eqb a b e ∙ sym (eq-eqb c d (to e))
      | no n ↦ ne_eqb a b n ∙ sym (ne_eqb c d (λ e. n (from e)))
    ]

-- a p of 0 where the rule says "used": t is not 0, so none
pub zero_none : (w p t : ℕ) → p ≡ 0 → t < 2 ^ w → used p t ≡ true → (f : ℕ) → solves w p t f ≡ false
unfolding solves
zero_none w p t e h u f =
    let some = eqb-false t 0 (not-true (eqb t 0) (sym (used_zero p t e) ∙ u)) in
    let left : (p * f) % 2 ^ w ≡ 0 = ap (λ (x : ℕ). (x * f) % 2 ^ w) e ∙ ap (λ (x : ℕ). x % 2 ^ w) (zero-mul f) ∙ mod-eq_of_lt (pow_pos w) in
    ne_eqb (p * f % 2 ^ w) (t % 2 ^ w) (λ q. some (sym (mod-eq_of_lt h) ∙ sym q ∙ left))

module _ (w p t z : ℕ) (wide : w ≤ 64) (pos : zero < p) (small : p < 2 ^ w) (zeros : z ≡ zeros_of p) where
  part : OddPart z p
  part = subst (λ (n : ℕ). OddPart n p) (sym zeros) (trailing_zeros_odd 64 p pos (lt_of_lt_of_le small (pow_mono wide)))

  pub fewer : z < w
  fewer = zeros_lt part w small

  pub odd : p / 2 ^ z % 2 ≡ 1
  odd = ap (λ (x : ℕ). x % 2) (shifted part) ∙ part.odd

  whole : 2 ^ w ≡ 2 ^ z * 2 ^ (w - z)
  whole = ap (λ (n : ℕ). 2 ^ n) (sym (add-sub_of_le (le_of_lt fewer))) ∙ pow-add 2 z (w - z)

  -- 2 ^ z divides p × f
  product : (f : ℕ) → p * f ≡ 2 ^ z * (p / 2 ^ z * f)
  product f =
      ap (λ (x : ℕ). x * f) (part.split ∙ ap (λ (x : ℕ). 2 ^ z * x) (sym (shifted part))) ∙ mul_assoc (2 ^ z) (p / 2 ^ z) f

  -- and so t, or there is none
  pub none : (t % 2 ^ z ≡ 0 → ⊥) → (f : ℕ) → solves w p t f ≡ false
  unfolding solves
  none n f =
      ne_eqb (p * f % 2 ^ w) (t % 2 ^ w) (λ e.
      n (sym (cong_less (le_of_lt fewer) (record { same = e })).same ∙ ap (λ (x : ℕ). x % 2 ^ z) (product f) ∙ mul-mod_right (2 ^ z) (p / 2 ^ z * f)))

  module _ (v : ℕ) (divides : t % 2 ^ z ≡ 0) (inverse : Cong (2 ^ (w - z)) (p / 2 ^ z * v) 1) where
    quotient : t ≡ 2 ^ z * (t / 2 ^ z)
    quotient =
        sym (split t z) ∙ ap (λ (r : ℕ). t / 2 ^ z * 2 ^ z + r) divides ∙ add-zero (t / 2 ^ z * 2 ^ z) ∙ mul_comm (t / 2 ^ z) (2 ^ z)

    found : (f : ℕ) → Cong (2 ^ w) (p * f) t → Cong (2 ^ (w - z)) f (v * (t / 2 ^ z))
    found f e =
        times_inverse (p / 2 ^ z) v f (t / 2 ^ z) inverse
        (cong_unscale (2 ^ z) (pow_pos z) (pow_pos (w - z))
        (subst (λ (m : ℕ). Cong m (2 ^ z * (p / 2 ^ z * f)) (2 ^ z * (t / 2 ^ z))) whole
        (cong_trans (cong_eq (2 ^ w) (sym (product f))) (cong_trans e (cong_eq (2 ^ w) quotient)))))

    right : (f : ℕ) → Cong (2 ^ (w - z)) f (v * (t / 2 ^ z)) → Cong (2 ^ w) (p * f) t
    right f e =
        cong_trans (cong_eq (2 ^ w) (product f))
        (cong_trans
        (subst (λ (m : ℕ). Cong m (2 ^ z * (p / 2 ^ z * f)) (2 ^ z * (t / 2 ^ z))) (sym whole)
        (cong_scale (2 ^ z) (pow_pos z) (pow_pos (w - z)) (of_inverse (p / 2 ^ z) v f (t / 2 ^ z) inverse e)))
        (cong_eq (2 ^ w) (sym quotient)))

    -- the solutions are one class modulo 2 ^ (w - z)
    pub one_class : (f : ℕ) → solves w p t f ≡ eqb (f % 2 ^ (w - z)) (v * (t / 2 ^ z) % 2 ^ (w - z))
    unfolding solves
    one_class f =
        same_test (p * f % 2 ^ w) (t % 2 ^ w) (f % 2 ^ (w - z)) (v * (t / 2 ^ z) % 2 ^ (w - z))
        (λ e. (found f (record { same = e })).same) (λ e. (right f (record { same = e })).same)

-- ---- the running value
-- it is the least and a multiple of the step
pub running_is : (w z least i : ℕ) → running_value w z least i ≡ least + i * 2 ^ (w - z)
unfolding running_value
running_is w z least zero = let e : 0 * 2 ^ (w - z) ≡ 0 = zero-mul (2 ^ (w - z)) in omega arith
running_is w z least (suc i) =
    let e : suc i * 2 ^ (w - z) ≡ i * 2 ^ (w - z) + 2 ^ (w - z) = suc-mul i (2 ^ (w - z)) in
    let ih = running_is w z least i in
    omega arith

-- it ascends
pub running_lt : (w z least i j : ℕ) → i < j → running_value w z least i < running_value w z least j
running_lt w z least i j l =
    let more : suc i * 2 ^ (w - z) ≤ j * 2 ^ (w - z) = mul-le-mul_right (2 ^ (w - z)) l in
    let e : suc i * 2 ^ (w - z) ≡ i * 2 ^ (w - z) + 2 ^ (w - z) = suc-mul i (2 ^ (w - z)) in
    let pos = pow_pos (w - z) in
    let a = running_is w z least i in
    let b = running_is w z least j in
    omega arith

-- ---- the least solution
-- of a class modulo 2 ^ k it is the remainder
pub class_least : (w p t k first : ℕ) → first < 2 ^ k → ((f : ℕ) → solves w p t f ≡ eqb (f % 2 ^ k) first) → Least w p t first
class_least w p t k first below class = record {
  solution = class first ∙ eq-eqb (first % 2 ^ k) first (mod-eq_of_lt below);
  none_below = λ g l. class g ∙ ne_eqb (g % 2 ^ k) first (λ e. let m = mod-le g (2 ^ k) in omega arith);
}

-- there is one least
pub least_unique : (w p t f g : ℕ) → Least w p t f → Least w p t g → f ≡ g
least_unique w p t f g a b = go (le_or_lt f g) (le_or_lt g f)
  where
    go : (f ≤ g) ⊎ (g < f) → (g ≤ f) ⊎ (f < g) → f ≡ g
    go (inr l) h = absurd (true_not_false (sym b.solution ∙ a.none_below g l))
    go (inl l) (inr h) = absurd (true_not_false (sym a.solution ∙ b.none_below f h))
    go (inl l) (inl h) = omega arith

-- ---- the facts
-- number i of a class modulo 2 ^ k
numbered_lt : (z k least i : ℕ) → least < 2 ^ k → i < 2 ^ z → least + i * 2 ^ k < 2 ^ z * 2 ^ k
numbered_lt z k least i h l =
    let next : suc i * 2 ^ k ≤ 2 ^ z * 2 ^ k = mul-le-mul_right (2 ^ k) l in
    let e : suc i * 2 ^ k ≡ i * 2 ^ k + 2 ^ k = suc-mul i (2 ^ k) in
    omega arith

pub keys_by_steps : KeysBySteps
keys_by_steps w p t wide pos small divides =
    let z = zeros_of p in
    let k = w - z in
    let has = odd_has_inverse k (p / 2 ^ z) (odd w p t z wide pos small refl) in
    let least = has.v * (t / 2 ^ z) % 2 ^ k in
    let below : least < 2 ^ k = mod-lt (has.v * (t / 2 ^ z)) (pow_pos k) in
    let class = one_class w p t z wide pos small refl has.v divides has.is in
    let size = whole w p t z wide pos small refl in
    record {
      least = least;
      is-least = class_least w p t k least below class;
      ascends = λ i j l _. running_lt w z least i j l;
      each = λ f n.
          let is = n.is ∙ running_is w z least n.i in (
            subst (λ (x : ℕ). x < 2 ^ w) (sym is) (subst (λ (x : ℕ). least + n.i * 2 ^ k < x) (sym size) (numbered_lt z k least n.i below n.few)),
            class f ∙ eq-eqb (f % 2 ^ k) least (ap (λ (x : ℕ). x % 2 ^ k) is ∙ (cong_multiple (2 ^ k) least n.i).same ∙ mod-eq_of_lt below),
          );
      every = λ f h s. record {
        i = f / 2 ^ k;
        few = shr_lt z k (subst (λ (x : ℕ). f < x) (size ∙ sym (pow-add 2 z k)) h);
        is =
            sym (split f k)
            ∙ add_comm (f / 2 ^ k * 2 ^ k) (f % 2 ^ k)
            ∙ ap (λ (x : ℕ). x + f / 2 ^ k * 2 ^ k) (eqb-true (f % 2 ^ k) least (sym (class f) ∙ s))
            ∙ sym (running_is w z least (f / 2 ^ k));
      };
    }

pub no_solution : NoSolution
no_solution w p t wide pos small more f = none w p t (zeros_of p) wide pos small refl (λ e. omega arith) f

-- what isn't solvable has no solution, for a p of 0 too
pub unsolvable : (w p t : ℕ) → w ≤ 64 → p < 2 ^ w → t < 2 ^ w → solvable p t ≡ false → (f : ℕ) → solves w p t f ≡ false
unfolding solvable
unsolvable w p t wide below t-below e f =
    let fewer : zeros_of t < zeros_of p = leb-false (zeros_of p) (zeros_of t) e in
    let most : zeros_of p ≤ 64 = trailing_le 64 p in
    let some : t ≡ 0 → ⊥ = λ q. omega (arith, fewer, most, ap zeros_of q ∙ zeros_of_none) in
    elim (ℕ_discrete p 0) [
      | yes z ↦ zero_none w p t z t-below (used_zero p t z ∙ ap not (ne_eqb t 0 some)) f
      | no n ↦ none w p t (zeros_of p) wide (omega (arith, n)) below refl (zeros-most (trailing_zeros_odd 64 t (omega (arith, some)) (lt_of_lt_of_le t-below (pow_mono wide))) (zeros_of p) fewer) f
    ]

-- ---- what an answer of `solve` says
module _ {w p t : ℕ} {r : Option Class} (solved : Solved w p t r) where
  pub solved_class : {k : Class} → r ≡ Some k → IsClass w p t k.zeros k.first
  solved_class e = subst (Solved w p t) e solved

  pub solved_none : r ≡ None → IsNone w p t
  solved_none e = subst (Solved w p t) e solved
