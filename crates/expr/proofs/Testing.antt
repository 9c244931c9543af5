-- One turn of the formula test: the test from here on, with the values counted so far, is the test of all. Assumes nothing.
use mathlib.Core.Path.{◌≡◌, sym, ap, ◌∙◌, subst}
use mathlib.Core.Bool.{Bool, true, false, ◌||◌, or-true}
use mathlib.Core.List.{List, ◌∷◌}
use Prim.Native.Nat.{ℕ, ◌+◌, ◌-◌, ◌≤◌, ◌<◌}
use native.Mathlib.Omega.{arith}
use borrow.Author.Tests.{lt-ltb, le-ltb}
use lib.Dec.{eqb, ltb}
use lib.ListN.{drop, drop_of_length-le}
use Rattle.limits.specs.Refusal.{outside_of}
use Rattle.expr.specs.declared.Token.{Token}
use Rattle.expr.specs.Formula.{token_at, tokens, known, is_formula, arity}
use Rattle.expr.proofs.Tokens.{tokens-length, tokens-next}
use Rattle.expr.proofs.Machine.{passes, passes_unknown, passes-low, passes_ok, passes_end, formula_outside, formula_inside, passed}

-- the rest from place i, with `depth` values on the stack
pub record Testing (nv count : ℕ) (ops operands : List ℕ) (depth i : ℕ) : Type 0 where
  pub few : depth ≤ i
  pub at : i ≤ count
  pub same : passes nv (drop i (tokens count ops operands)) depth ≡ is_formula nv (tokens count ops operands)

module _ (nv count : ℕ) (ops operands : List ℕ) where
  pub test-few : count < 1 → false ≡ is_formula nv (tokens count ops operands)
  test-few h =
      formula_outside nv (tokens count ops operands)
      (ap (outside_of 1 64) (tokens-length ops operands count) ∙ ap (λ (b : Bool). b || ltb 64 count) (lt-ltb count 1 h))

  pub test-many : 64 < count → false ≡ is_formula nv (tokens count ops operands)
  test-many h =
      formula_outside nv (tokens count ops operands)
      (ap (outside_of 1 64) (tokens-length ops operands count) ∙ ap (λ (b : Bool). ltb count 1 || b) (lt-ltb 64 count h) ∙ or-true (ltb count 1))

  pub test-start : 1 ≤ count → count ≤ 64 → Testing nv count ops operands 0 0
  test-start h k = record {
    few = omega arith;
    at = omega arith;
    same = formula_inside nv (tokens count ops operands)
        (ap (outside_of 1 64) (tokens-length ops operands count) ∙ simp (le-ltb count 1 h, le-ltb 64 count k));
  }

  module _ (depth i : ℕ) (s : Testing nv count ops operands depth i) where
    pub test_end : count ≤ i → eqb depth 1 ≡ is_formula nv (tokens count ops operands)
    test_end h =
        passes_end nv depth
        ∙ ap (λ (l : List Token). passes nv l depth) (sym (drop_of_length-le (tokens count ops operands) {i = i} (omega (arith, tokens-length ops operands count))))
        ∙ s.same

    module _ (h : i < count) (t : Token) (e : token_at ops operands i ≡ t) where
      here : passes nv (t ∷ drop (i + 1) (tokens count ops operands)) depth ≡ is_formula nv (tokens count ops operands)
      here = ap (λ (l : List Token). passes nv l depth) (sym (tokens-next ops operands count i t h e)) ∙ s.same

      pub test_unknown : known nv t ≡ false → false ≡ is_formula nv (tokens count ops operands)
      test_unknown u = sym (passes_unknown nv t (drop (i + 1) (tokens count ops operands)) depth u) ∙ here

      pub test_low : depth < arity t → false ≡ is_formula nv (tokens count ops operands)
      test_low u = sym (passes-low nv t (drop (i + 1) (tokens count ops operands)) depth u) ∙ here

      pub test-next : known nv t ≡ true → arity t ≤ depth → Testing nv count ops operands (depth - arity t + 1) (i + 1)
      test-next u l = record {
        few = (let a = s.few in omega arith);
        at = omega arith;
        same = sym (passes_ok nv t (drop (i + 1) (tokens count ops operands)) depth u l) ∙ here;
      }

-- a formula that passes has at most 64 tokens
pub formula-short : (nv count : ℕ) (ops operands : List ℕ) → is_formula nv (tokens count ops operands) ≡ true → count ≤ 64
formula-short nv count ops operands h = subst (λ (n : ℕ). n ≤ 64) (tokens-length ops operands count) (passed nv (tokens count ops operands) h).most
