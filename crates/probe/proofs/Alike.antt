-- A formula over nv variables reads no word past the first nv. Assumes nothing.
use mathlib.Core.Path.{◌≡◌, refl, sym, ap, ap₂, ◌∙◌}
use mathlib.Core.Bool.{true}
use mathlib.Core.List.{List, [], ◌∷◌}
use Prim.Native.Nat.{ℕ, ◌%◌, ◌^◌, ◌<◌}
use borrow.Author.Tests.{ltb-true}
use lib.ListN.{get_or}
use Rattle.expr.specs.declared.Token.{Token}
use Rattle.expr.specs.Formula.{or_else, is_formula}
use Rattle.expr.specs.Tree.{Tree, written, within, fold}
use Rattle.expr.specs.Tree.Tree.{constant, variable, inverted, negated, gated}
use Rattle.limits.proofs.Refusals.{and_left, and_right}
use Rattle.expr.proofs.Trees.{whole_tree, formula-is_tree}
use Rattle.expr_eval.specs.Value.{value_alg, value_of}
use Rattle.probe_points.specs.declared.Point.{Point}
use Rattle.probe.specs.FormulaRow.{row_of}

module _ (nv w : ℕ) where
  -- two inputs are alike in the words that count
  abbrev pub Alike : List ℕ → List ℕ → Type 0
  Alike a b = (i : ℕ) → i < nv → get_or a i 0 ≡ get_or b i 0

  tree_alike : (a b : List ℕ) → Alike a b → (t : Tree) → within nv t ≡ true → fold (value_alg w a) t ≡ fold (value_alg w b) t
  unfolding fold value_alg within
  tree_alike a b h (constant k) p = refl
  tree_alike a b h (variable i) p = ap (λ (v : ℕ). v % 2 ^ w) (h i (ltb-true i nv p))
  tree_alike a b h (inverted t) p = ap (value_alg w a).on_not (tree_alike a b h t p)
  tree_alike a b h (negated t) p = ap (value_alg w a).on_neg (tree_alike a b h t p)
  tree_alike a b h (gated g s t) p =
      ap₂ ((value_alg w a).on_gate g)
      (tree_alike a b h s (and_left (within nv s) (within nv t) p))
      (tree_alike a b h t (and_right (within nv s) (within nv t) p))

  value_tree : (a : List ℕ) (t : Tree) → value_of w a (written t) ≡ fold (value_alg w a) t
  unfolding value_of or_else
  value_tree a t = ap (or_else 0) (whole_tree (value_alg w a) t)

  pub value_alike : (a b : List ℕ) → Alike a b → (ts : List Token) → is_formula nv ts ≡ true → value_of w a ts ≡ value_of w b ts
  value_alike a b h ts p =
      let f = formula-is_tree nv ts p in
      ap (value_of w a) (sym f.text) ∙ value_tree a f.tree ∙ tree_alike a b h f.tree f.vars ∙ sym (value_tree b f.tree) ∙ ap (value_of w b) f.text

  -- points alike in the words that count
  pub data AlikePoints : List Point → List Point → Type 0 where
    none : AlikePoints [] []
    more : {p q : Point} {ps qs : List Point} → Alike p.words q.words → AlikePoints ps qs → AlikePoints (p ∷ ps) (q ∷ qs)

  -- 01, Points: calls that take points ignore the places past the variable count
  pub row_alike : {ps qs : List Point} → AlikePoints ps qs → (ts : List Token) → is_formula nv ts ≡ true → row_of w ps ts ≡ row_of w qs ts
  unfolding row_of
  row_alike none ts f = refl
  row_alike (more {p} {q} h rest) ts f = ap₂ (λ (v : ℕ) (l : List ℕ). v ∷ l) (value_alike p.words q.words h ts f) (row_alike rest ts f)
