-- The running value over the keys of a class: where it is, its next step, and that it meets the solutions. Assumes nothing.
use mathlib.Core.Path.{◌≡◌, refl, sym, ap, ◌∙◌, subst}
use Prim.Native.Nat.{ℕ, zero, suc, ◌+◌, ◌-◌, ◌*◌, ◌%◌, ◌^◌, ◌≤◌, ◌<◌}
use native.Mathlib.Nat.{add-mul, one-mul, mod-lt, mod-eq_of_lt, add-sub_of_le, mul-le-mul_right, add-mul-mod_self_right}
use native.Mathlib.Decide.{ℕ_discrete}
use native.Mathlib.Omega.{arith}
use borrow.Author.Tests.{eqb-true}
use lib.Pow.{pow_pos, pow_mono, pow-add}
use Rattle.limits.proofs.Refusals.{true_not_false}
use Rattle.search_equation.specs.Equation.{zeros_of, running_value}
use Rattle.search_equation.specs.Facts.{Met, Solutions}
use Rattle.search_equation.specs.Solved.{IsClass}
use Rattle.search_equation.proofs.Zeros.{zeros_of_none}
use Rattle.search_equation.proofs.Solutions.{running_is, running_lt, least_unique, keys_by_steps, no_solution}
use Rattle.search_filter.specs.declared.inner.Residue.{Residue}
use Rattle.search_filter.specs.Sweeps.{Small, IsKey}
use Rattle.search_filter.specs.Facts.{Keyed, KeysAreSolutions, OneKeyNoStep}

-- what is added for each further key
abbrev pub step_of : Residue → ℕ
step_of c = 2 ^ (c.w - c.zeros)

module _ (c : Residue) (small : Small c) where
  abbrev S : ℕ
  S = step_of c

  whole : 2 ^ c.w ≡ 2 ^ c.zeros * S
  whole = ap (λ (k : ℕ). 2 ^ k) (sym (add-sub_of_le small.within)) ∙ pow-add 2 c.zeros (c.w - c.zeros)

  -- all are left at the least
  pub key_first : (left : ℕ) → left ≡ 2 ^ c.zeros → IsKey c c.first left
  unfolding running_value
  key_first left e =
      let none : 0 ≡ 2 ^ c.zeros - left = omega arith in
      record {
        some = let p = pow_pos c.zeros in omega arith;
        most = omega arith;
        is = ap (running_value c.w c.zeros c.first) none;
      }

  module _ (key left : ℕ) (k : IsKey c key left) where
    -- the key, and a step for each that is left
    pub key_rest : key + left * S ≡ c.first + 2 ^ c.w
    key_rest =
        let i = 2 ^ c.zeros - left in
        let all : i + left ≡ 2 ^ c.zeros = omega (arith, k.most) in
        let sum : i * S + left * S ≡ 2 ^ c.w = sym (add-mul i left S) ∙ ap (λ (x : ℕ). x * S) all ∙ sym whole in
        let is : key ≡ c.first + i * S = k.is ∙ running_is c.w c.zeros c.first i in
        omega arith

    pub key_class : key % S ≡ c.first
    key_class =
        sym (add-mul-mod_self_right key left S)
        ∙ ap (λ (x : ℕ). x % S) (key_rest ∙ ap (λ (x : ℕ). c.first + x) whole)
        ∙ add-mul-mod_self_right c.first (2 ^ c.zeros) S
        ∙ mod-eq_of_lt small.below

    -- one less is left
    pub rest-next : key + S + (left - 1) * S ≡ c.first + 2 ^ c.w
    rest-next =
        let e : left ≡ left - 1 + 1 = omega (arith, k.some) in
        let q : left * S ≡ (left - 1) * S + S = ap (λ (x : ℕ). x * S) e ∙ add-mul (left - 1) 1 S ∙ ap (λ (x : ℕ). (left - 1) * S + x) (one-mul S) in
        let r = key_rest in
        omega arith

    module _ (more : 1 < left) where
      -- the next key, and that it is one
      pub next-value : key + S ≡ running_value c.w c.zeros c.first (2 ^ c.zeros - (left - 1))
      unfolding running_value
      next-value =
          let next : suc (2 ^ c.zeros - left) ≡ 2 ^ c.zeros - (left - 1) = omega (arith, k.most) in
          ap (λ (x : ℕ). x + S) k.is ∙ ap (running_value c.w c.zeros c.first) next

      pub key_next : (r : ℕ) → r ≡ key + S → IsKey c r (left - 1)
      key_next r e = record { some = omega arith; most = omega (arith, k.most); is = e ∙ next-value }

      -- it is a u64, and so is the step
      pub next-below : key + S < 2 ^ 64
      next-below =
          let top : 2 ^ c.w ≤ 2 ^ 64 = pow_mono small.width in
          let one : 1 * S ≤ (left - 1) * S = mul-le-mul_right S (let q : 1 ≤ left - 1 = omega arith in q) in
          roomy key S ((left - 1) * S) c.first (2 ^ c.w) (2 ^ 64) rest-next (subst (λ (x : ℕ). x ≤ (left - 1) * S) (one-mul S) one) small.below top
        where
          roomy : (k s x f t top : ℕ) → k + s + x ≡ f + t → s ≤ x → f < s → t ≤ top → k + s < top
          roomy k s x f t top a b d e = omega arith

      pub step_small : c.w - c.zeros < 64
      step_small = go c.zeros refl
        where
          go : (z : ℕ) → c.zeros ≡ z → c.w - c.zeros < 64
          go zero e = absurd (let one : 2 ^ c.zeros ≡ 1 = ap (λ (z : ℕ). 2 ^ z) e in omega (arith, k.most))
          go (suc z) e = omega (arith, small.width)

-- ---- the keys are the solutions
abbrev pub class_of : ℕ → ℕ → ℕ → Residue
class_of w zeros first = record { w = w; zeros = zeros; first = first }

-- the class that `solve` answers
pub class_small : {w p t zeros first : ℕ} → w ≤ 64 → IsClass w p t zeros first → Small (class_of w zeros first)
class_small {w} {p} {t} {zeros} {first} wide is =
    let same : first % 2 ^ (w - zeros) ≡ first = eqb-true (first % 2 ^ (w - zeros)) first (sym (is.is first) ∙ is.least.solution) in
    record {
      width = wide;
      within = is.within;
      few = is.few;
      below = subst (λ (x : ℕ). x < 2 ^ (w - zeros)) same (mod-lt first (pow_pos (w - zeros)));
    }

module _ (w p t zeros first : ℕ) (wide : w ≤ 64) (small : p < 2 ^ w) (is : IsClass w p t zeros first) where
  -- p isn't 0, which has 64 zeros
  some_p : 0 < p
  some_p = elim (ℕ_discrete p 0) [
    | yes e ↦ absurd (omega (arith, is.few, is.zeros-is ∙ ap zeros_of e ∙ zeros_of_none))
    | no n ↦ omega (arith, n)
  ]

  -- 2 ^ z divides t: there is a solution
  divides : t % 2 ^ zeros_of p ≡ 0
  divides = elim (ℕ_discrete (t % 2 ^ zeros_of p) 0) [
    | yes e ↦ e
    | no n ↦ absurd (true_not_false (sym is.least.solution ∙ no_solution w p t wide some_p small (omega (arith, n)) first))
  ]

  met : Solutions w p t
  met = keys_by_steps w p t wide some_p small divides

  key_met : (f left : ℕ) → IsKey (class_of w zeros first) f left → Met w p met.least f
  key_met f left k =
      let z = is.zeros-is in
      let least = least_unique w p t first met.least is.least met.is-least in
      record {
        i = 2 ^ zeros - left;
        few = subst (λ (z : ℕ). 2 ^ zeros - left < 2 ^ z) z (omega (arith, k.some, k.most));
        is = k.is ∙ ap (λ (z : ℕ). running_value w z first (2 ^ zeros - left)) z ∙ ap (λ (l : ℕ). running_value w (zeros_of p) l (2 ^ zeros - left)) least;
      }

  met_key : (f : ℕ) → Met w p met.least f → Keyed (class_of w zeros first) f
  met_key f m =
      let z = is.zeros-is in
      let least = least_unique w p t first met.least is.least met.is-least in
      let few : m.i < 2 ^ zeros = subst (λ (z : ℕ). m.i < 2 ^ z) (sym z) m.few in
      let back : m.i ≡ 2 ^ zeros - (2 ^ zeros - m.i) = omega arith in
      record {
        left = 2 ^ zeros - m.i;
        is = record {
          some = omega arith;
          most = omega arith;
          is = m.is ∙ ap (λ (l : ℕ). running_value w (zeros_of p) l m.i) (sym least) ∙ ap (λ (z : ℕ). running_value w z first m.i) (sym z) ∙ ap (running_value w zeros first) back;
        };
      }

pub keys_are_solutions : KeysAreSolutions
keys_are_solutions w p t zeros first wide small is = record {
  ascend = λ f g m n k l h.
      let up = running_lt w zeros first (2 ^ zeros - m) (2 ^ zeros - n) (omega (arith, k.most)) in
      omega (arith, k.is, l.is);
  each = λ f left k. (met w p t zeros first wide small is).each f (key_met w p t zeros first wide small is f left k);
  every = λ f h s. met_key w p t zeros first wide small is f ((met w p t zeros first wide small is).every f h s);
}

pub one_key_no_step : OneKeyNoStep
unfolding running_value
one_key_no_step c key left e k =
    let one : 2 ^ c.zeros ≡ 1 = ap (λ (z : ℕ). 2 ^ z) e in
    let is_one : left ≡ 1 = omega (arith, k.some, k.most) in
    let none : 2 ^ c.zeros - left ≡ 0 = omega arith in
    (k.is ∙ ap (running_value c.w c.zeros c.first) none, is_one)
