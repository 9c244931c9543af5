-- What passes the test is a tree written out in postfix, and only such; every algebra reads it as its fold. Assumes nothing.
use mathlib.Core.Path.{◌≡◌, refl, sym, ap, ap₂, ◌∙◌}
use mathlib.Core.Bool.{Bool, true, ◌&&◌, and-true}
use mathlib.Core.List.{List, [], ◌∷◌, ◌++◌, append_assoc, append-nil}
use mathlib.Core.Option.{Option, none, some}
use Prim.Native.Nat.{ℕ, zero, suc, ◌≤◌}
use native.Mathlib.Omega.{arith}
use lib.Dec.{ltb}
use lib.ListN.{length, length-append}
use Rattle.limits.proofs.Refusals.{true_not_false}
use Rattle.expr.specs.declared.Token.{Token}
use Rattle.expr.specs.declared.Token.TheVariants.{Constant, Variable, Binary, Not, Neg, Bad}
use Rattle.expr.specs.Formula.{Alg, step, run, only, whole, Mark, mark_alg, is_some, leaves_one, known, all_known, is_formula}
use Rattle.expr.specs.Tree.{Tree, written, within, fold}
use Rattle.expr.specs.Tree.Tree.{constant, variable, inverted, negated, gated}
use Rattle.expr.proofs.Machine.{none≢some, marks, passed, passing, all-known-append}

-- ---- a written tree is read as its fold, at every algebra
module _ {A : Type 0} (m : Alg A) where
  pub run_tree : (t : Tree) (ts : List Token) (st : List A) → run m (written t ++ ts) st ≡ run m ts (fold m t ∷ st)
  unfolding run step written fold
  run_tree (constant k) ts st = refl
  run_tree (variable i) ts st = refl
  run_tree (inverted a) ts st = ap (λ (l : List Token). run m l st) (append_assoc (written a) (Not ∷ []) ts) ∙ run_tree a (Not ∷ ts) st
  run_tree (negated a) ts st = ap (λ (l : List Token). run m l st) (append_assoc (written a) (Neg ∷ []) ts) ∙ run_tree a (Neg ∷ ts) st
  run_tree (gated g a b) ts st =
      ap (λ (l : List Token). run m l st) (append_assoc (written a) (written b ++ (Binary g ∷ [])) ts)
      ∙ run_tree a ((written b ++ (Binary g ∷ [])) ++ ts) st
      ∙ ap (λ (l : List Token). run m l (fold m a ∷ st)) (append_assoc (written b) (Binary g ∷ []) ts)
      ∙ run_tree b (Binary g ∷ ts) (fold m a ∷ st)

  pub whole_tree : (t : Tree) → whole m (written t) ≡ some (fold m t)
  unfolding whole only run
  whole_tree t = ap (λ (l : List Token). only (run m l [])) (sym (append-nil (written t))) ∙ ap only (run_tree t [] [])

-- ---- every list that leaves one value is a written tree
-- the trees of a stack written out, the deepest first
texts : List Tree → List Token
texts [] = []
texts (t ∷ st) = texts st ++ written t

-- what stands on the stack of trees and what is left to read is the whole
record Parsed (ts : List Token) (st : List Tree) (d : ℕ) : Type 0 where
  stack : List Tree
  text : texts stack ≡ texts st ++ ts
  count : length stack ≡ d

length-marks : (n : ℕ) → length (marks n) ≡ n
unfolding marks
length-marks zero = refl
length-marks (suc n) = ap suc (length-marks n)

parse : (ts : List Token) (st : List Tree) (l : List Mark) → run mark_alg ts (marks (length st)) ≡ some l → Parsed ts st (length l)
unfolding run step marks mark_alg texts written
parse [] st l e =
    let p : marks (length st) ≡ l = cc in
    record { stack = st; text = sym (append-nil (texts st)); count = sym (length-marks (length st)) ∙ ap length p }
parse (Constant k ∷ ts) st l e =
    let p = parse ts (constant k ∷ st) l e in
    record { stack = p.stack; text = p.text ∙ append_assoc (texts st) (Constant k ∷ []) ts; count = p.count }
parse (Variable i ∷ ts) st l e =
    let p = parse ts (variable i ∷ st) l e in
    record { stack = p.stack; text = p.text ∙ append_assoc (texts st) (Variable i ∷ []) ts; count = p.count }
parse (Not ∷ ts) [] l e = absurd (none≢some e)
parse (Not ∷ ts) (a ∷ st) l e =
    let p = parse ts (inverted a ∷ st) l e in
    record { stack = p.stack; text = p.text ∙ simp append_assoc; count = p.count }
parse (Neg ∷ ts) [] l e = absurd (none≢some e)
parse (Neg ∷ ts) (a ∷ st) l e =
    let p = parse ts (negated a ∷ st) l e in
    record { stack = p.stack; text = p.text ∙ simp append_assoc; count = p.count }
parse (Binary g ∷ ts) [] l e = absurd (none≢some e)
parse (Binary g ∷ ts) (b ∷ []) l e = absurd (none≢some e)
parse (Binary g ∷ ts) (b ∷ (a ∷ st)) l e =
    let p = parse ts (gated g a b ∷ st) l e in
    record { stack = p.stack; text = p.text ∙ simp append_assoc; count = p.count }
parse (Bad ∷ ts) st l e = absurd (none≢some e)

-- one tree, written out
pub record Formed (ts : List Token) : Type 0 where
  pub tree : Tree
  pub text : written tree ≡ ts

formed_one : (ts : List Token) (st : List Tree) → texts st ≡ texts [] ++ ts → length st ≡ 1 → Formed ts
unfolding texts
formed_one ts [] q n = absurd (omega arith)
formed_one ts (t ∷ []) q n = record { tree = t; text = q }
formed_one ts (t ∷ (u ∷ st)) q n = absurd (omega arith)

formed_run : (ts : List Token) (x : Option (List Mark)) → run mark_alg ts [] ≡ x → is_some (only x) ≡ true → Formed ts
unfolding only marks
formed_run ts none e h = absurd (true_not_false (sym h))
formed_run ts (some []) e h = absurd (true_not_false (sym h))
formed_run ts (some (a ∷ [])) e h = let p = parse ts [] (a ∷ []) e in formed_one ts p.stack p.text p.count
formed_run ts (some (a ∷ (b ∷ l))) e h = absurd (true_not_false (sym h))

pub formed : (ts : List Token) → leaves_one ts ≡ true → Formed ts
unfolding leaves_one whole
formed ts h = formed_run ts (run mark_alg ts []) refl h

pub leaves-one_tree : (t : Tree) → leaves_one (written t) ≡ true
unfolding leaves_one
leaves-one_tree t = ap is_some (whole_tree mark_alg t)

-- ---- variables
pub all-known_tree : (nv : ℕ) (t : Tree) → all_known nv (written t) ≡ within nv t
unfolding all_known known written within
all-known_tree nv (constant k) = refl
all-known_tree nv (variable i) = and-true (ltb i nv)
all-known_tree nv (inverted a) = all-known-append nv (written a) (Not ∷ []) ∙ and-true (all_known nv (written a)) ∙ all-known_tree nv a
all-known_tree nv (negated a) = all-known-append nv (written a) (Neg ∷ []) ∙ and-true (all_known nv (written a)) ∙ all-known_tree nv a
all-known_tree nv (gated g a b) =
    all-known-append nv (written a) (written b ++ (Binary g ∷ []))
    ∙ ap₂ (λ (x y : Bool). x && y) (all-known_tree nv a)
    (all-known-append nv (written b) (Binary g ∷ []) ∙ and-true (all_known nv (written b)) ∙ all-known_tree nv b)

pub written_pos : (t : Tree) → 1 ≤ length (written t)
unfolding written
written_pos (constant k) = omega arith
written_pos (variable i) = omega arith
written_pos (inverted a) = omega (arith, length-append (written a) (Not ∷ []))
written_pos (negated a) = omega (arith, length-append (written a) (Neg ∷ []))
written_pos (gated g a b) = omega (arith, written_pos a, length-append (written a) (written b ++ (Binary g ∷ [])))

-- ---- what passes is a tree written out in postfix ..
pub record IsTree (nv : ℕ) (ts : List Token) : Type 0 where
  pub tree : Tree
  pub text : written tree ≡ ts
  pub most : length ts ≤ 64
  pub vars : within nv tree ≡ true

pub formula-is_tree : (nv : ℕ) (ts : List Token) → is_formula nv ts ≡ true → IsTree nv ts
formula-is_tree nv ts h =
    let p = passed nv ts h in
    let f = formed ts p.one in
    record { tree = f.tree; text = f.text; most = p.most; vars = sym (all-known_tree nv f.tree) ∙ ap (all_known nv) f.text ∙ p.all }

-- .. and only such
pub tree_is-formula : (nv : ℕ) (t : Tree) → length (written t) ≤ 64 → within nv t ≡ true → is_formula nv (written t) ≡ true
tree_is-formula nv t h k = passing nv (written t) (written_pos t) h (all-known_tree nv t ∙ k) (leaves-one_tree t)
