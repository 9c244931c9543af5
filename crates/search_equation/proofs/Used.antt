-- The rule "used" by its cases. Assumes nothing.
use mathlib.Core.Path.{◌≡◌, sym, ap, ◌∙◌}
use mathlib.Core.Logic.{◌⊎◌, inl, inr}
use mathlib.Core.Bool.{Bool, true, not, ◌&&◌, cond}
use Prim.Native.Nat.{ℕ, ◌%◌, ◌^◌, ◌≤◌, ◌<◌}
use borrow.Author.Tests.{lt-ltb, le-ltb, eq-eqb, ne_eqb, eqb-false, not-true}
use lib.Dec.{eqb, ltb}
use Rattle.limits.proofs.Refusals.{le_or_lt}
use Rattle.search_equation.specs.Equation.{zeros_of, used}

pub used_zero : (p t : ℕ) → p ≡ 0 → used p t ≡ not (eqb t 0)
unfolding used
used_zero p t e = ap (λ (b : Bool). not (cond b (eqb t 0) (ltb 8 (zeros_of p) && eqb (t % 2 ^ zeros_of p) 0))) (eq-eqb p 0 e)

module _ (p t : ℕ) (some : p ≡ 0 → ⊥) where
  rest : used p t ≡ not (ltb 8 (zeros_of p) && eqb (t % 2 ^ zeros_of p) 0)
  unfolding used
  rest = ap (λ (b : Bool). not (cond b (eqb t 0) (ltb 8 (zeros_of p) && eqb (t % 2 ^ zeros_of p) 0))) (ne_eqb p 0 some)

  pub used-many : 8 < zeros_of p → used p t ≡ not (eqb (t % 2 ^ zeros_of p) 0)
  used-many h = rest ∙ ap (λ (b : Bool). not (b && eqb (t % 2 ^ zeros_of p) 0)) (lt-ltb 8 (zeros_of p) h)

  pub used-few : zeros_of p ≤ 8 → used p t ≡ true
  used-few h = rest ∙ ap (λ (b : Bool). not (b && eqb (t % 2 ^ zeros_of p) 0)) (le-ltb 8 (zeros_of p) h)

  -- where the rule says "used" and there are solutions, they are at most 2 ^ 8
  pub few-zeros : used p t ≡ true → t % 2 ^ zeros_of p ≡ 0 → zeros_of p ≤ 8
  few-zeros u d = go (le_or_lt (zeros_of p) 8)
    where
      go : (zeros_of p ≤ 8) ⊎ (8 < zeros_of p) → zeros_of p ≤ 8
      go (inl l) = l
      go (inr l) = absurd (eqb-false (t % 2 ^ zeros_of p) 0 (not-true (eqb (t % 2 ^ zeros_of p) 0) (sym (used-many l) ∙ u)) d)
