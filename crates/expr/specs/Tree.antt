-- Formulas as trees, and how a tree is written out in postfix. Assumes nothing.
use Rattle.std.specs.Prelude.{Bool, true, ◌&&◌, List, [], ◌∷◌, ◌++◌, ℕ, ltb}
use Rattle.row_gates.specs.declared.Gate.{Gate}
use Rattle.expr.specs.declared.Token.{Token}
use Rattle.expr.specs.declared.Token.TheVariants.{Constant, Variable, Binary, Not, Neg}
use Rattle.expr.specs.Formula.{Alg}

-- 01, From heap ..: the `Arc<Expr>` trees that become postfix formulas
pub data Tree : Type 0 where
  constant : ℕ → Tree
  variable : ℕ → Tree
  inverted : Tree → Tree
  negated : Tree → Tree
  gated : Gate → Tree → Tree → Tree

-- 01, From heap ..: postfix. The operands first, from left to right
unfoldable pub written : Tree → List Token
written (constant k) = Constant k ∷ []
written (variable i) = Variable i ∷ []
written (inverted a) = written a ++ (Not ∷ [])
written (negated a) = written a ++ (Neg ∷ [])
written (gated g a b) = written a ++ (written b ++ (Binary g ∷ []))

-- each variable is below nv
unfoldable pub within : ℕ → Tree → Bool
within nv (constant k) = true
within nv (variable i) = ltb i nv
within nv (inverted a) = within nv a
within nv (negated a) = within nv a
within nv (gated g a b) = within nv a && within nv b

-- what an algebra makes of a tree
unfoldable pub fold : {A : Type 0} → Alg A → Tree → A
fold m (constant k) = m.on_constant k
fold m (variable i) = m.on_variable i
fold m (inverted a) = m.on_not (fold m a)
fold m (negated a) = m.on_neg (fold m a)
fold m (gated g a b) = m.on_gate g (fold m a) (fold m b)
