-- The variables that a formula reads, as a set: one more algebra of the stack machine, beside value and cost. Assumes nothing.
use Rattle.std.specs.Prelude.{Bool, false, ◌||◌, List, [], ◌∷◌, ℕ, ◌^◌, eqb}
use Rattle.std.specs.Int.Bits.{bit_or}
use Rattle.expr.specs.declared.Token.{Token}
use Rattle.expr.specs.declared.Token.TheVariants.{Constant, Variable, Binary, Not, Neg, Bad}
use Rattle.expr.specs.Formula.{Alg, whole, or_else}

-- 02, 2.8: a set, bit i for variable i. A constant reads none, a variable itself, Not and Neg what their operand reads, a gate what either operand reads
unfoldable pub set_alg : Alg ℕ
set_alg = record {
  on_constant = λ k. 0;
  on_variable = λ i. 2 ^ i;
  on_not = λ a. a;
  on_neg = λ a. a;
  on_gate = λ g a b. bit_or a b;
}

-- the set of tokens; 0 where they leave no value
unfoldable pub set_of : List Token → ℕ
unfolding set_alg whole or_else
set_of ts = or_else 0 (whole set_alg ts)

-- 02, 2.8: variable i occurs in the formula: one of its tokens is that variable
unfoldable pub is_variable : ℕ → Token → Bool
is_variable i (Constant k) = false
is_variable i (Variable j) = eqb i j
is_variable i (Binary g) = false
is_variable i Not = false
is_variable i Neg = false
is_variable i Bad = false

unfoldable pub occurs : ℕ → List Token → Bool
unfolding is_variable
occurs i [] = false
occurs i (t ∷ ts) = is_variable i t || occurs i ts
