-- Laws of costs that the crates above cite: the cost of f Not, f Neg and f g gate, from those of f and g; bounds; one token by itself. Assumes nothing.
use mathlib.Core.Path.{◌≡◌, refl, sym, subst}
use mathlib.Core.Bool.{Bool, true, false, cond}
use mathlib.Core.List.{List, [], ◌∷◌, ◌++◌}
use Prim.Native.Nat.{ℕ, ◌≤◌}
use native.Mathlib.Omega.{arith}
use lib.ListN.{length, length-append}
use Rattle.row_gates.specs.declared.Gate.{Gate}
use Rattle.expr.specs.declared.Token.{Token}
use Rattle.expr.specs.declared.Token.TheVariants.{Constant, Variable, Binary, Not, Neg}
use Rattle.expr.specs.Formula.{step, run, only, whole, or_else, is_formula}
use Rattle.expr.specs.Tree.{Tree, written, fold}
use Rattle.expr.specs.Tree.Tree.{constant, variable, inverted, negated, gated}
use Rattle.expr.proofs.Trees.{formula-is_tree}
use Rattle.expr.proofs.Formulas.{read_not, read_neg, read_gate}
use Rattle.expr_cost.specs.declared.CostInfo.{CostInfo}
use Rattle.expr_cost.specs.Cost.{leaf_info, info_unary, info_gate, is_nonlinear, cost_alg, no_cost, info_of, cost_of, Roomy}
use Rattle.expr_cost.proofs.Spans.{info_tree, tree_roomy}

pub info_constant : (k : ℕ) → info_of (Constant k ∷ []) ≡ leaf_info false
unfolding info_of whole run step only or_else cost_alg
info_constant k = refl

pub info_variable : (i : ℕ) → info_of (Variable i ∷ []) ≡ leaf_info true
unfolding info_of whole run step only or_else cost_alg
info_variable i = refl

module _ (nv : ℕ) (f : List Token) (h : is_formula nv f ≡ true) where
  pub info_not : info_of (f ++ (Not ∷ [])) ≡ info_unary (info_of f)
  unfolding info_of cost_alg
  info_not = read_not cost_alg (record { cost = no_cost; varies = false }) nv f h

  pub info_neg : info_of (f ++ (Neg ∷ [])) ≡ info_unary (info_of f)
  unfolding info_of cost_alg
  info_neg = read_neg cost_alg (record { cost = no_cost; varies = false }) nv f h

  pub info_gate_lem : (g : List Token) → is_formula nv g ≡ true → (k : Gate) → info_of (f ++ (g ++ (Binary k ∷ []))) ≡ info_gate k (info_of f) (info_of g)
  unfolding info_of cost_alg
  info_gate_lem g j k = read_gate cost_alg (record { cost = no_cost; varies = false }) nv f h g j k

  -- its numbers are far from 32 bits
  pub cost_roomy : Roomy (cost_of f)
  cost_roomy =
      let p = formula-is_tree nv f h in
      subst (λ (l : List Token). Roomy (cost_of l)) p.text (tree_roomy p.tree (subst (λ (l : List Token). length l ≤ 64) (sym p.text) p.most))

weight_pos : (b : Bool) → 1 ≤ cond b 3 1
weight_pos true = omega arith
weight_pos false = omega arith

size_tree : (t : Tree) → length (written t) ≤ (fold cost_alg t).cost.size
unfolding written fold cost_alg
size_tree (constant k) = omega arith
size_tree (variable i) = omega arith
size_tree (inverted a) = omega (arith, size_tree a, length-append (written a) (Not ∷ []))
size_tree (negated a) = omega (arith, size_tree a, length-append (written a) (Neg ∷ []))
size_tree (gated g a b) =
    omega (arith, size_tree a, size_tree b, weight_pos (is_nonlinear g (fold cost_alg a).varies (fold cost_alg b).varies), length-append (written a) (written b ++ (Binary g ∷ [])), length-append (written b) (Binary g ∷ []))

-- a formula has no more tokens than its weighted size
pub tokens_le_size : (nv : ℕ) (f : List Token) → is_formula nv f ≡ true → length f ≤ (cost_of f).size
tokens_le_size nv f h =
    let p = formula-is_tree nv f h in
    subst (λ (l : List Token). length l ≤ (cost_of l).size) p.text
    (subst (λ (c : CostInfo). length (written p.tree) ≤ c.cost.size) (sym (info_tree p.tree)) (size_tree p.tree))
