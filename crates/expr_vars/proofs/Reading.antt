-- The facts of specs/Facts, by trees: which bits are set, how many there can be, and that a value depends on the words of the set alone. Assumes nothing.
use mathlib.Core.Path.{◌≡◌, refl, sym, ap, ap₂, ◌∙◌, subst}
use mathlib.Core.Bool.{Bool, true, false, cond, ◌&&◌, ◌||◌}
use mathlib.Core.List.{List, [], ◌∷◌, ◌++◌}
use mathlib.Core.Option.{Option, none, some}
use Prim.Native.Nat.{ℕ, ◌%◌, ◌^◌, ◌<◌, max}
use native.Mathlib.Decide.{ℕ_discrete}
use native.Mathlib.Omega.{arith}
use borrow.Author.Tests.{eq-eqb, ne_eqb, ltb-true}
use lib.Bits.{bit_or, or_lt}
use lib.Dec.{eqb, ltb}
use lib.ListN.{get_or}
use lib.Pow.{pow_pos, pow-lt}
use Rattle.arith.specs.Word.{bit_of, not_of, neg_of}
use Rattle.arith.proofs.Bits.{bit_low, bit_of-bit_or, bit_one, bit_other, bit_none}
use Rattle.limits.proofs.Refusals.{true_not_false, and_left, and_right}
use Rattle.row_gates.specs.Gates.{gate_of}
use Rattle.expr.specs.declared.Token.{Token}
use Rattle.expr.specs.declared.Token.TheVariants.{Constant, Variable, Binary, Not, Neg}
use Rattle.expr.specs.Formula.{whole, or_else, is_some, leaves_one, is_formula}
use Rattle.expr.specs.Tree.{Tree, written, within, fold}
use Rattle.expr.specs.Tree.Tree.{constant, variable, inverted, negated, gated}
use Rattle.expr.proofs.Machine.{leaves-one_any}
use Rattle.expr.proofs.Trees.{formed, formula-is_tree}
use Rattle.expr.proofs.Formulas.{read_tree, read_formed}
use Rattle.expr_eval.specs.Value.{value_alg, value_of}
use Rattle.expr_vars.specs.Vars.{set_alg, set_of, is_variable, occurs}
use Rattle.expr_vars.specs.Facts.{SetExactly, SetIsSmall, Alike, AlikeInputs}

-- the set of a written tree
set_tree : (t : Tree) → set_of (written t) ≡ fold set_alg t
unfolding set_of
set_tree t = read_tree set_alg 0 t

-- ---- which bits are set
abbrev mark : Bool → ℕ
mark b = cond b 1 0

mark_or : (a b : Bool) → max (mark a) (mark b) ≡ mark (a || b)
mark_or true true = refl
mark_or true false = refl
mark_or false true = refl
mark_or false false = refl

or_false : (b : Bool) → (b || false) ≡ b
or_false true = refl
or_false false = refl

occurs-append : (i : ℕ) (f g : List Token) → occurs i (f ++ g) ≡ (occurs i f || occurs i g)
unfolding occurs
occurs-append i [] g = refl
occurs-append i (t ∷ ts) g = go (is_variable i t) (occurs-append i ts g)
  where
    go : (b : Bool) → occurs i (ts ++ g) ≡ (occurs i ts || occurs i g) → (b || occurs i (ts ++ g)) ≡ ((b || occurs i ts) || occurs i g)
    go true e = refl
    go false e = e

-- one token more that is no variable
occurs-last : (i : ℕ) (f : List Token) (t : Token) → is_variable i t ≡ false → occurs i (f ++ (t ∷ [])) ≡ occurs i f
unfolding occurs
occurs-last i f t e = occurs-append i f (t ∷ []) ∙ ap (λ (b : Bool). occurs i f || (b || false)) e ∙ or_false (occurs i f)

bit_variable : (i j : ℕ) → bit_of (2 ^ j) i ≡ mark (eqb i j)
bit_variable i j = elim (ℕ_discrete i j) [
  | yes e ↦ ap (λ (k : ℕ). bit_of (2 ^ j) k) e ∙ bit_one j ∙ ap mark (sym (eq-eqb i j e))
  | no n ↦ bit_other j i n ∙ ap mark (sym (ne_eqb i j n))
]

bit_tree : (i : ℕ) (t : Tree) → bit_of (fold set_alg t) i ≡ mark (occurs i (written t))
unfolding fold set_alg written occurs is_variable
bit_tree i (constant k) = bit_none i
bit_tree i (variable j) = bit_variable i j ∙ ap mark (sym (or_false (eqb i j)))
bit_tree i (inverted a) = bit_tree i a ∙ ap mark (sym (occurs-last i (written a) Not refl))
bit_tree i (negated a) = bit_tree i a ∙ ap mark (sym (occurs-last i (written a) Neg refl))
bit_tree i (gated g a b) =
    bit_of-bit_or (fold set_alg a) (fold set_alg b) i
    ∙ ap₂ max (bit_tree i a) (bit_tree i b)
    ∙ mark_or (occurs i (written a)) (occurs i (written b))
    ∙ ap mark (sym (occurs-append i (written a) (written b ++ (Binary g ∷ [])) ∙ ap (λ (x : Bool). occurs i (written a) || x) (occurs-last i (written b) (Binary g) refl)))

pub set_exactly : SetExactly
set_exactly nv ts h i =
    let p = formula-is_tree nv ts h in
    subst (λ (l : List Token). bit_of (set_of l) i ≡ mark (occurs i l)) p.text
    (ap (λ (s : ℕ). bit_of s i) (set_tree p.tree) ∙ bit_tree i p.tree)

-- ---- how many
small_tree : (nv : ℕ) (t : Tree) → within nv t ≡ true → fold set_alg t < 2 ^ nv
unfolding fold set_alg within
small_tree nv (constant k) h = pow_pos nv
small_tree nv (variable i) h = pow-lt (ltb-true i nv h)
small_tree nv (inverted a) h = small_tree nv a h
small_tree nv (negated a) h = small_tree nv a h
small_tree nv (gated g a b) h =
    or_lt nv (fold set_alg a) (fold set_alg b) (small_tree nv a (and_left (within nv a) (within nv b) h)) (small_tree nv b (and_right (within nv a) (within nv b) h))

pub set-is-small : SetIsSmall
set-is-small nv ts h =
    let p = formula-is_tree nv ts h in
    subst (λ (l : List Token). set_of l < 2 ^ nv) p.text (subst (λ (s : ℕ). s < 2 ^ nv) (sym (set_tree p.tree)) (small_tree nv p.tree p.vars))

-- ---- a value depends on the words of the set alone
module _ (w : ℕ) (words others : List ℕ) where
  -- a part of the set
  alike_left : (a b : ℕ) → Alike w (bit_or a b) words others → Alike w a words others
  alike_left a b h i e = h i (omega (arith, bit_of-bit_or a b i, bit_low b i))

  alike_right : (a b : ℕ) → Alike w (bit_or a b) words others → Alike w b words others
  alike_right a b h i e = h i (omega (arith, bit_of-bit_or a b i, bit_low a i))

  alike_tree : (t : Tree) → Alike w (fold set_alg t) words others → fold (value_alg w words) t ≡ fold (value_alg w others) t
  unfolding fold set_alg value_alg
  alike_tree (constant k) h = refl
  alike_tree (variable i) h = h i (bit_one i)
  alike_tree (inverted a) h = ap (λ (v : ℕ). not_of (2 ^ w) v) (alike_tree a h)
  alike_tree (negated a) h = ap (λ (v : ℕ). neg_of (2 ^ w) v) (alike_tree a h)
  alike_tree (gated g a b) h =
      ap₂ (λ (x y : ℕ). gate_of g w x y)
      (alike_tree a (alike_left (fold set_alg a) (fold set_alg b) h))
      (alike_tree b (alike_right (fold set_alg a) (fold set_alg b) h))

none-value : (x : Option ℕ) → is_some x ≡ false → or_else 0 x ≡ 0
unfolding or_else
none-value none e = refl
none-value (some a) e = absurd (true_not_false e)

pub alike_inputs : AlikeInputs
unfolding value_of set_of
alike_inputs w ts words others h = go (leaves_one ts) refl
  where
    no_value : (l : List ℕ) → leaves_one ts ≡ false → value_of w l ts ≡ 0
    no_value l e = none-value (whole (value_alg w l) ts) (sym (leaves-one_any (value_alg w l) ts) ∙ e)

    go : (b : Bool) → leaves_one ts ≡ b → value_of w words ts ≡ value_of w others ts
    go true e =
        let f = formed ts e in
        read_formed (value_alg w words) 0 f
        ∙ alike_tree w words others f.tree (subst (λ (s : ℕ). Alike w s words others) (read_formed set_alg 0 f) h)
        ∙ sym (read_formed (value_alg w others) 0 f)
    go false e = no_value words e ∙ sym (no_value others e)
