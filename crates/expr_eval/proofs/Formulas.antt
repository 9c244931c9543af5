-- Laws of values that the crates above cite: the value of f Not, f Neg and f g gate, from those of f and g; its bound; one token by itself. Assumes nothing.
use mathlib.Core.Path.{◌≡◌, refl, sym, ◌∙◌, subst}
use mathlib.Core.Bool.{Bool, true, false}
use mathlib.Core.List.{List, [], ◌∷◌, ◌++◌}
use mathlib.Core.Option.{Option, none, some}
use Prim.Native.Nat.{ℕ, ◌-◌, ◌%◌, ◌^◌, ◌<◌}
use native.Mathlib.Nat.{mod-lt}
use native.Mathlib.Omega.{arith}
use lib.ListN.{get_or}
use lib.Pow.{pow_pos}
use Rattle.arith.specs.Word.{not_of, neg_of}
use Rattle.limits.proofs.Refusals.{true_not_false}
use Rattle.row_gates.specs.Gates.{joined, gate_of}
use Rattle.row_gates.specs.declared.Gate.{Gate}
use Rattle.row_gates.specs.Facts.{bitwise}
use Rattle.row_gates.proofs.GateLaws.{gate_lt, reduced_bit_by_bit}
use Rattle.expr.specs.declared.Token.{Token}
use Rattle.expr.specs.declared.Token.TheVariants.{Constant, Variable, Binary, Not, Neg}
use Rattle.expr.specs.Formula.{step, run, only, whole, or_else, is_some, leaves_one, is_formula}
use Rattle.expr.specs.Tree.{Tree, fold}
use Rattle.expr.specs.Tree.Tree.{constant, variable, inverted, negated, gated}
use Rattle.expr.proofs.Machine.{leaves-one_any}
use Rattle.expr.proofs.Trees.{formed}
use Rattle.expr.proofs.Formulas.{read_formed, read_not, read_neg, read_gate}
use Rattle.expr_eval.specs.Value.{value_alg, value_of}

module _ (w : ℕ) (words : List ℕ) where
  pub value-constant : (k : ℕ) → value_of w words (Constant k ∷ []) ≡ k % 2 ^ w
  unfolding value_of whole run step only or_else value_alg
  value-constant k = refl

  pub value-variable : (i : ℕ) → value_of w words (Variable i ∷ []) ≡ get_or words i 0 % 2 ^ w
  unfolding value_of whole run step only or_else value_alg
  value-variable i = refl

  module _ (nv : ℕ) (f : List Token) (h : is_formula nv f ≡ true) where
    pub value_not : value_of w words (f ++ (Not ∷ [])) ≡ not_of (2 ^ w) (value_of w words f)
    unfolding value_of value_alg
    value_not = read_not (value_alg w words) 0 nv f h

    pub value-neg : value_of w words (f ++ (Neg ∷ [])) ≡ neg_of (2 ^ w) (value_of w words f)
    unfolding value_of value_alg
    value-neg = read_neg (value_alg w words) 0 nv f h

    pub value-gate : (g : List Token) → is_formula nv g ≡ true → (k : Gate)
        → value_of w words (f ++ (g ++ (Binary k ∷ []))) ≡ gate_of k w (value_of w words f) (value_of w words g)
    unfolding value_of value_alg
    value-gate g j k = read_gate (value_alg w words) 0 nv f h g j k

  tree_lt : (t : Tree) → fold (value_alg w words) t < 2 ^ w
  unfolding fold value_alg
  tree_lt (constant k) = mod-lt k (pow_pos w)
  tree_lt (variable i) = mod-lt (get_or words i 0) (pow_pos w)
  tree_lt (inverted a) = let p = pow_pos w in omega arith
  tree_lt (negated a) = mod-lt (2 ^ w - fold (value_alg w words) a % 2 ^ w) (pow_pos w)
  tree_lt (gated g a b) = gate_lt g w (fold (value_alg w words) a) (fold (value_alg w words) b)

  none_lt : (x : Option ℕ) → is_some x ≡ false → or_else 0 x < 2 ^ w
  unfolding or_else
  none_lt none e = pow_pos w
  none_lt (some a) e = absurd (true_not_false e)

  -- the value of any tokens is below 2 ^ w
  pub value_lt : (ts : List Token) → value_of w words ts < 2 ^ w
  unfolding value_of
  value_lt ts = go (leaves_one ts) refl
    where
      go : (b : Bool) → leaves_one ts ≡ b → value_of w words ts < 2 ^ w
      go true e = let f = formed ts e in subst (λ (v : ℕ). v < 2 ^ w) (sym (read_formed (value_alg w words) 0 f)) (tree_lt f.tree)
      go false e = none_lt (whole (value_alg w words) ts) (sym (leaves-one_any (value_alg w words) ts) ∙ e)

  -- And, Or and Xor of two formulas go bit by bit on their values
  pub value_bit_by_bit : (nv : ℕ) (f g : List Token) → is_formula nv f ≡ true → is_formula nv g ≡ true → (k : Gate) → bitwise k ≡ true
      → value_of w words (f ++ (g ++ (Binary k ∷ []))) ≡ joined k (value_of w words f) (value_of w words g)
  value_bit_by_bit nv f g hf hg k i =
      value-gate nv f hf g hg k ∙ reduced_bit_by_bit k i w (value_of w words f) (value_of w words g) (value_lt f) (value_lt g)
