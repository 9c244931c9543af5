-- Rows of formulas from those of their operands: what Neg, Not and a gate make of a row. Assumes nothing.
use mathlib.Core.Path.{◌≡◌, refl, ap₂, ◌∙◌}
use mathlib.Core.Bool.{true}
use mathlib.Core.List.{List, [], ◌∷◌, ◌++◌, map, zip_with}
use Prim.Native.Nat.{ℕ, zero, suc, ◌%◌, ◌^◌, ◌<◌}
use native.Mathlib.Nat.{mod-eq_of_lt}
use lib.ListN.{length, get_or, replicate}
use lib.Pow.{pow_pos}
use Rattle.arith.specs.Word.{not_of, neg_of}
use Rattle.row_gates.specs.Gates.{gate_row}
use Rattle.row_gates.specs.declared.Gate.{Gate}
use Rattle.expr.specs.declared.Token.{Token}
use Rattle.expr.specs.declared.Token.TheVariants.{Constant, Binary, Not, Neg}
use Rattle.expr.specs.Formula.{is_formula}
use Rattle.expr_eval.proofs.Formulas.{value-constant, value_not, value-neg, value-gate, value_lt}
use Rattle.probe_points.specs.declared.Point.{Point}
use Rattle.probe.specs.FormulaRow.{row_of}

module _ (w : ℕ) where
  -- every word of a row is reduced
  pub row_lt : (points : List Point) (ts : List Token) (k : ℕ) → get_or (row_of w points ts) k 0 < 2 ^ w
  unfolding row_of
  row_lt [] ts k = pow_pos w
  row_lt (p ∷ points) ts zero = value_lt w p.words ts
  row_lt (p ∷ points) ts (suc k) = row_lt points ts k

  -- the constant 0 is 0 everywhere
  pub row_zero : (points : List Point) (k : ℕ) → get_or (row_of w points (Constant 0 ∷ [])) k 0 ≡ 0
  unfolding row_of
  row_zero [] k = refl
  row_zero (p ∷ points) zero = value-constant w p.words 0 ∙ mod-eq_of_lt (pow_pos w)
  row_zero (p ∷ points) (suc k) = row_zero points k

  -- a constant's row is its word everywhere
  pub row-constant : (points : List Point) (v : ℕ) → row_of w points (Constant v ∷ []) ≡ replicate (length points) (v % 2 ^ w)
  unfolding row_of
  row-constant [] v = refl
  row-constant (p ∷ points) v = ap₂ (λ (x : ℕ) (l : List ℕ). x ∷ l) (value-constant w p.words v) (row-constant points v)

  module _ (nv : ℕ) (f : List Token) (h : is_formula nv f ≡ true) where
    -- Neg of a row, word by word
    pub row-neg : (points : List Point) → row_of w points (f ++ (Neg ∷ [])) ≡ map (neg_of (2 ^ w)) (row_of w points f)
    unfolding row_of
    row-neg [] = refl
    row-neg (p ∷ points) = ap₂ (λ (x : ℕ) (l : List ℕ). x ∷ l) (value-neg w p.words nv f h) (row-neg points)

    -- Not of a row
    pub row-not : (points : List Point) → row_of w points (f ++ (Not ∷ [])) ≡ map (not_of (2 ^ w)) (row_of w points f)
    unfolding row_of
    row-not [] = refl
    row-not (p ∷ points) = ap₂ (λ (x : ℕ) (l : List ℕ). x ∷ l) (value_not w p.words nv f h) (row-not points)

    -- two rows under a gate
    pub row-gate : (g : List Token) → is_formula nv g ≡ true → (k : Gate) (points : List Point)
        → row_of w points (f ++ (g ++ (Binary k ∷ []))) ≡ gate_row k w (row_of w points f) (row_of w points g)
    unfolding row_of gate_row zip_with
    row-gate g j k [] = refl
    row-gate g j k (p ∷ points) = ap₂ (λ (x : ℕ) (l : List ℕ). x ∷ l) (value-gate w p.words nv f h g j k) (row-gate g j k points)
