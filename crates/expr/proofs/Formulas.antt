-- Laws of formulas that the crates above cite: what any algebra makes of f Not, f Neg and f g gate, from f and g; what passes the test. Assumes nothing.
use mathlib.Core.Path.{◌≡◌, refl, sym, ap, ap₂, ◌∙◌}
use mathlib.Core.Bool.{true}
use mathlib.Core.List.{List, [], ◌∷◌, ◌++◌}
use Prim.Native.Nat.{ℕ, ◌+◌, ◌≤◌, ◌<◌}
use native.Mathlib.Omega.{arith}
use borrow.Author.Tests.{lt-ltb}
use lib.ListN.{length, length-append}
use Rattle.row_gates.specs.declared.Gate.{Gate}
use Rattle.expr.specs.declared.Token.{Token}
use Rattle.expr.specs.declared.Token.TheVariants.{Constant, Variable, Binary, Not, Neg}
use Rattle.expr.specs.Formula.{Alg, whole, or_else, is_formula}
use Rattle.expr.specs.Tree.{Tree, written, within, fold}
use Rattle.expr.specs.Tree.Tree.{constant, variable, inverted, negated, gated}
use Rattle.limits.proofs.Refusals.{and_both}
use Rattle.expr.proofs.Machine.{passed}
use Rattle.expr.proofs.Trees.{whole_tree, Formed, formed, formula-is_tree, tree_is-formula}

-- ---- at any algebra: what is read of f Not, f Neg, f g gate
module _ {A : Type 0} (m : Alg A) (other : A) where
  pub read_tree : (t : Tree) → or_else other (whole m (written t)) ≡ fold m t
  unfolding or_else
  read_tree t = ap (or_else other) (whole_tree m t)

  pub read_formed : {ts : List Token} (f : Formed ts) → or_else other (whole m ts) ≡ fold m f.tree
  read_formed f = ap (λ (l : List Token). or_else other (whole m l)) (sym f.text) ∙ read_tree f.tree

  module _ (nv : ℕ) (f : List Token) (h : is_formula nv f ≡ true) where
    pub read_not : or_else other (whole m (f ++ (Not ∷ []))) ≡ m.on_not (or_else other (whole m f))
    unfolding written fold
    read_not =
        let p = formed f (passed nv f h).one in
        ap (λ (l : List Token). or_else other (whole m (l ++ (Not ∷ [])))) (sym p.text) ∙ read_tree (inverted p.tree) ∙ ap m.on_not (sym (read_formed p))

    pub read_neg : or_else other (whole m (f ++ (Neg ∷ []))) ≡ m.on_neg (or_else other (whole m f))
    unfolding written fold
    read_neg =
        let p = formed f (passed nv f h).one in
        ap (λ (l : List Token). or_else other (whole m (l ++ (Neg ∷ [])))) (sym p.text) ∙ read_tree (negated p.tree) ∙ ap m.on_neg (sym (read_formed p))

    pub read_gate : (g : List Token) → is_formula nv g ≡ true → (k : Gate)
        → or_else other (whole m (f ++ (g ++ (Binary k ∷ [])))) ≡ m.on_gate k (or_else other (whole m f)) (or_else other (whole m g))
    unfolding written fold
    read_gate g j k =
        let p = formed f (passed nv f h).one in
        let q = formed g (passed nv g j).one in
        ap₂ (λ (x y : List Token). or_else other (whole m (x ++ (y ++ (Binary k ∷ []))))) (sym p.text) (sym q.text)
        ∙ read_tree (gated k p.tree q.tree)
        ∙ ap₂ (m.on_gate k) (sym (read_formed p)) (sym (read_formed q))

-- ---- what passes
pub constant-passes : (nv k : ℕ) → is_formula nv (Constant k ∷ []) ≡ true
unfolding written within
constant-passes nv k = tree_is-formula nv (constant k) (omega arith) refl

pub variable-passes : (nv i : ℕ) → i < nv → is_formula nv (Variable i ∷ []) ≡ true
unfolding written within
variable-passes nv i h = tree_is-formula nv (variable i) (omega arith) (lt-ltb i nv h)

module _ (nv : ℕ) (f : List Token) (h : is_formula nv f ≡ true) where
  pub not-passes : length f ≤ 63 → is_formula nv (f ++ (Not ∷ [])) ≡ true
  unfolding written within
  not-passes l =
      let p = formula-is_tree nv f h in
      ap (λ (x : List Token). is_formula nv (x ++ (Not ∷ []))) (sym p.text)
      ∙ tree_is-formula nv (inverted p.tree) (omega (arith, ap length p.text, length-append (written p.tree) (Not ∷ []))) p.vars

  pub neg-passes : length f ≤ 63 → is_formula nv (f ++ (Neg ∷ [])) ≡ true
  unfolding written within
  neg-passes l =
      let p = formula-is_tree nv f h in
      ap (λ (x : List Token). is_formula nv (x ++ (Neg ∷ []))) (sym p.text)
      ∙ tree_is-formula nv (negated p.tree) (omega (arith, ap length p.text, length-append (written p.tree) (Neg ∷ []))) p.vars

  pub gate-passes : (g : List Token) → is_formula nv g ≡ true → (k : Gate) → length f + length g ≤ 63 → is_formula nv (f ++ (g ++ (Binary k ∷ []))) ≡ true
  unfolding written within
  gate-passes g j k l =
      let p = formula-is_tree nv f h in
      let q = formula-is_tree nv g j in
      ap₂ (λ (x y : List Token). is_formula nv (x ++ (y ++ (Binary k ∷ [])))) (sym p.text) (sym q.text)
      ∙ tree_is-formula nv (gated k p.tree q.tree)
      (omega (arith, ap length p.text, ap length q.text, length-append (written p.tree) (written q.tree ++ (Binary k ∷ [])), length-append (written q.tree) (Binary k ∷ [])))
      (and_both p.vars q.vars)
