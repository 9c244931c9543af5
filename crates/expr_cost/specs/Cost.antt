-- The cost of a formula, and when one cost is better than another. Assumes nothing.
use Rattle.std.specs.Prelude.{Bool, true, false, cond, ◌&&◌, ◌||◌, List, ◌+◌, ◌<◌, ◌^◌, max, eqb, ltb}
use Rattle.row_gates.specs.declared.Gate.{Gate}
use Rattle.row_gates.specs.declared.Gate.TheVariants.{And, Or, Xor, Add, Mul}
use Rattle.expr.specs.declared.Token.{Token}
use Rattle.expr.specs.Formula.{Alg, whole, or_else}
use Rattle.expr_cost.specs.declared.Cost.{Cost}
use Rattle.expr_cost.specs.declared.CostInfo.{CostInfo}

-- 01, expr_cost.rs: a leaf costs (weighted size 1, nonlinear products 0, depth 1)
abbrev pub leaf_cost : Cost
leaf_cost = record { size = 1; products = 0; depth = 1 }

-- 01, expr_cost.rs: Not and Neg add 1 to size and depth
abbrev pub under_unary : Cost → Cost
under_unary c = record { size = c.size + 1; products = c.products; depth = c.depth + 1 }

-- 01, expr_cost.rs: a binary gate adds up the sizes and products of its operands, adds 1 to the size, and has depth one above the deeper
-- operand; where it is nonlinear it adds 3 to the size instead, and 1 product
abbrev pub under_gate : Bool → Cost → Cost → Cost
under_gate nonlinear a b = record {
  size = a.size + b.size + cond nonlinear 3 1;
  products = a.products + b.products + cond nonlinear 1 0;
  depth = max a.depth b.depth + 1;
}

-- 01, expr_cost.rs: Mul with a variable under both operands
unfoldable pub is_nonlinear : Gate → Bool → Bool → Bool
is_nonlinear And a b = false
is_nonlinear Or a b = false
is_nonlinear Xor a b = false
is_nonlinear Add a b = false
is_nonlinear Mul a b = a && b

-- the same with the mark whether a variable stands in the formula
abbrev pub leaf_info : Bool → CostInfo
leaf_info v = record { cost = leaf_cost; varies = v }

abbrev pub info_unary : CostInfo → CostInfo
info_unary a = record { cost = under_unary a.cost; varies = a.varies }

abbrev pub info_gate : Gate → CostInfo → CostInfo → CostInfo
info_gate g a b = record { cost = under_gate (is_nonlinear g a.varies b.varies) a.cost b.cost; varies = a.varies || b.varies }

-- 01, expr_cost.rs: what each token costs, over the costs of its operands
unfoldable pub cost_alg : Alg CostInfo
unfolding is_nonlinear
cost_alg = record {
  on_constant = λ k. leaf_info false;
  on_variable = λ i. leaf_info true;
  on_not = λ a. info_unary a;
  on_neg = λ a. info_unary a;
  on_gate = λ g a b. info_gate g a b;
}

-- 01, Turned back: a cost record that a call hands back by value holds only zeros when turned back
abbrev pub no_cost : Cost
no_cost = record { size = 0; products = 0; depth = 0 }

-- the cost of tokens, with the mark; zeros where they leave no value, which the calls refuse
unfoldable pub info_of : List Token → CostInfo
unfolding cost_alg whole or_else
info_of ts = or_else (record { cost = no_cost; varies = false }) (whole cost_alg ts)

abbrev pub cost_of : List Token → Cost
cost_of ts = (info_of ts).cost

-- 01, expr_cost.rs, `is_better`: strictly smaller in (size, products, depth), first difference decides
unfoldable pub is_better : Cost → Cost → Bool
is_better c d =
    cond (eqb c.size d.size)
    (cond (eqb c.products d.products) (ltb c.depth d.depth) (ltb c.products d.products))
    (ltb c.size d.size)

-- numbers of a cost that two of them, and 3 more, can be added within 32 bits
pub record Roomy (c : Cost) : Type 0 where
  pub size : c.size < 2 ^ 30
  pub products : c.products < 2 ^ 30
  pub depth : c.depth < 2 ^ 30
