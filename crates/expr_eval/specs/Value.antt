-- The value of a formula. Assumes nothing.
use Rattle.std.specs.Prelude.{◌≡◌, true, List, ℕ, ◌%◌, ◌^◌, ◌≤◌, length, get_or}
use Rattle.arith.specs.Word.{not_of, neg_of}
use Rattle.row_gates.specs.Gates.{gate_of}
use Rattle.expr.specs.declared.Token.{Token}
use Rattle.expr.specs.Formula.{tokens, Alg, whole, or_else, is_formula}

-- 01, evaluator.rs: a constant or variable is its word modulo 2^w; Not is 2^w - 1 - v; Neg, Add and Mul are taken modulo 2^w; And, Or, Xor go bit by
-- bit (`value_bit_by_bit` of proofs/Formulas: of values, which are below 2^w, a gate's reduction changes nothing)
unfoldable pub value_alg : ℕ → List ℕ → Alg ℕ
value_alg w words = record {
  on_constant = λ k. k % 2 ^ w;
  on_variable = λ i. get_or words i 0 % 2 ^ w;
  on_not = λ a. not_of (2 ^ w) a;
  on_neg = λ a. neg_of (2 ^ w) a;
  on_gate = λ g a b. gate_of g w a b;
}

-- the value of tokens at the input words; 0 where they leave no value, which the calls refuse
unfoldable pub value_of : ℕ → List ℕ → List Token → ℕ
unfolding value_alg whole or_else
value_of w words ts = or_else 0 (whole (value_alg w words) ts)

-- what the evaluator asks: a width that a call has tested, and a formula whose variables all have a word
pub record Evaluable (w count : ℕ) (ops operands words : List ℕ) : Type 0 where
  pub width : w ≤ 64
  pub formula : is_formula (length words) (tokens count ops operands) ≡ true
