-- Laws of sets that the crates above cite: the set of f Not, f Neg and f g gate, from those of f and g; one token by itself. Assumes nothing.
use mathlib.Core.Path.{◌≡◌, refl}
use mathlib.Core.Bool.{true}
use mathlib.Core.List.{List, [], ◌∷◌, ◌++◌}
use Prim.Native.Nat.{ℕ, ◌^◌}
use lib.Bits.{bit_or}
use Rattle.row_gates.specs.declared.Gate.{Gate}
use Rattle.expr.specs.declared.Token.{Token}
use Rattle.expr.specs.declared.Token.TheVariants.{Constant, Variable, Binary, Not, Neg}
use Rattle.expr.specs.Formula.{step, run, only, whole, or_else, is_formula}
use Rattle.expr.proofs.Formulas.{read_not, read_neg, read_gate}
use Rattle.expr_vars.specs.Vars.{set_alg, set_of}

pub set-constant : (k : ℕ) → set_of (Constant k ∷ []) ≡ 0
unfolding set_of whole run step only or_else set_alg
set-constant k = refl

pub set-variable : (i : ℕ) → set_of (Variable i ∷ []) ≡ 2 ^ i
unfolding set_of whole run step only or_else set_alg
set-variable i = refl

module _ (nv : ℕ) (f : List Token) (h : is_formula nv f ≡ true) where
  pub set-not : set_of (f ++ (Not ∷ [])) ≡ set_of f
  unfolding set_of set_alg
  set-not = read_not set_alg 0 nv f h

  pub set-neg : set_of (f ++ (Neg ∷ [])) ≡ set_of f
  unfolding set_of set_alg
  set-neg = read_neg set_alg 0 nv f h

  pub set-gate : (g : List Token) → is_formula nv g ≡ true → (k : Gate) → set_of (f ++ (g ++ (Binary k ∷ []))) ≡ bit_or (set_of f) (set_of g)
  unfolding set_of set_alg
  set-gate g j k = read_gate set_alg 0 nv f h g j k
