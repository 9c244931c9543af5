-- Sixteen records through one formula: what a token leaves in a lane, and what the calls ask. Assumes nothing.
use Rattle.std.specs.Prelude.{◌≡◌, true, List, ℕ, ◌*◌, ◌≤◌, length}
use Rattle.expr.specs.declared.Token.{Token}
use Rattle.expr.specs.declared.Token.TheVariants.{Constant, Variable, Binary, Not, Neg, Bad}
use Rattle.expr.specs.Formula.{Alg, arity, known, tokens, is_formula}

-- what a token leaves, where b is the value on top of the stack and a the one below it; `Bad` is never asked for
unfoldable pub leaves : {A : Type 0} → Alg A → Token → A → A → A
leaves m (Constant k) a b = m.on_constant k
leaves m (Variable i) a b = m.on_variable i
leaves m (Binary g) a b = m.on_gate g a b
leaves m Not a b = m.on_not b
leaves m Neg a b = m.on_neg b
leaves m Bad a b = b

-- a token that may stand in a formula over nv variables, over a stack of sp rows that has what it takes
pub record Takes (w nv sp : ℕ) (t : Token) (stack records : List ℕ) : Type 0 where
  pub narrow : w ≤ 64
  pub few : nv ≤ 6
  pub may : known nv t ≡ true
  pub there : arity t ≤ sp
  pub high : 16 * sp ≤ length stack
  pub long : length records ≡ nv * 16

-- a formula over nv variables, sixteen records, and a stack with room for it
pub record RowsReady (w nv count : ℕ) (ops operands records stack : List ℕ) : Type 0 where
  pub narrow : w ≤ 64
  pub few : nv ≤ 6
  pub formula : is_formula nv (tokens count ops operands) ≡ true
  pub long : length records ≡ nv * 16
  pub room : length stack ≡ 1024
