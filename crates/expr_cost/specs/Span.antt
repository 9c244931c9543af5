-- A part of the tokens that is a formula by itself, where the formula that ends at a place begins, and its cost. Assumes nothing.
use Rattle.std.specs.Prelude.{◌≡◌, Bool, true, List, ℕ, zero, suc, ◌+◌, ◌-◌, ◌≤◌, drop}
use Rattle.row_gates.specs.declared.Gate.{Gate}
use Rattle.expr.specs.declared.Token.{Token}
use Rattle.expr.specs.Formula.{token_at, tokens, leaves_one, arity}
use Rattle.expr_cost.specs.declared.inner.SpanCost.{SpanCost}
use Rattle.expr_cost.specs.Cost.{leaf_info, info_unary, info_gate, info_of}

-- going back from a place, where the last `need` values begin
unfoldable pub back : List ℕ → List ℕ → ℕ → ℕ → ℕ
unfolding arity token_at
back ops operands zero need = zero
back ops operands (suc i) zero = suc i
back ops operands (suc i) (suc n) = back ops operands i (n + arity (token_at ops operands i))

-- the tokens from `from` up to `to`
unfoldable pub span_of : List ℕ → List ℕ → ℕ → ℕ → List Token
unfolding tokens
span_of ops operands from to = drop from (tokens to ops operands)

-- they leave one value
pub record Span (ops operands : List ℕ) (from to : ℕ) : Type 0 where
  pub order : from ≤ to
  pub most : to ≤ 64
  pub one : leaves_one (span_of ops operands from to) ≡ true

-- a formula ends before `to`
abbrev pub Ends : List ℕ → List ℕ → ℕ → Type 0
Ends ops operands to = Span ops operands (back ops operands to 1) to

-- and its last token t takes operands
pub record Under (ops operands : List ℕ) (to : ℕ) (t : Token) : Type 0 where
  pub ends : Ends ops operands to
  pub last : token_at ops operands (to - 1) ≡ t
  pub takes : 1 ≤ arity t

-- a cost, with the place where its formula begins
abbrev pub span_leaf : Bool → ℕ → SpanCost
span_leaf varies from = record { info = leaf_info varies; from = from }

abbrev pub span_unary : SpanCost → SpanCost
span_unary a = record { info = info_unary a.info; from = a.from }

abbrev pub span_gate : Gate → SpanCost → SpanCost → SpanCost
span_gate g a b = record { info = info_gate g a.info b.info; from = a.from }

-- the cost of the formula that ends before `to`
unfoldable pub cost_before : List ℕ → List ℕ → ℕ → SpanCost
unfolding back span_of info_of
cost_before ops operands to = record { info = info_of (span_of ops operands (back ops operands to 1) to); from = back ops operands to 1 }
