-- 02, 2.2: a load of n is n calls, the state runs on, the same inputs give the same load, and the first n formulas of a longer load are the load of n. Assumes nothing.
use Rattle.std.specs.Prelude.{◌≡◌, List, [], ◌∷◌, ◌++◌, ℕ, zero, suc, ◌+◌, ◌≤◌, take}
use Rattle.expr.specs.declared.Token.{Token}
use Rattle.expr.specs.Formula.{tokens}
use Rattle.limits.specs.Refusal.{Outcome, refused, answer}
use Rattle.load_draw.specs.declared.DrawnFormula.{DrawnFormula}
use Rattle.load_draw.specs.Draw.{formula_from, load_from, load_state, draw_refusal, Called, called}

-- formulas, and the state after them
pub record Loaded : Type 0 where
  pub forms : List (List Token)
  pub state : ℕ

-- the count and the state that a call hands on: of one that is refused no token, and the state as it was
abbrev pub handed_on : ℕ → Outcome DrawnFormula → DrawnFormula
handed_on s (refused number) = record { count = 0; state = s }
handed_on s (answer d) = d

-- the formula that stands in the arrays after a call in state s, before those of the calls after it
abbrev pub before : ℕ → Called → Loaded → Loaded
before s c more = record { forms = tokens (handed_on s c.answer).count c.ops c.operands ∷ more.forms; state = more.state }

-- n calls of `draw_formula`, each on what the one before left and handed on
unfoldable pub calls_from : ℕ → ℕ → ℕ → ℕ → List ℕ → List ℕ → ℕ → Loaded
unfolding formula_from draw_refusal tokens
calls_from nv w limit zero ops operands s = record { forms = []; state = s }
calls_from nv w limit (suc n) ops operands s =
    let c : Called = called s nv w limit ops operands in before s c (calls_from nv w limit n c.ops c.operands (handed_on s c.answer).state)

-- 02, 2.2: one call draws one formula and hands the state on; a load of n is n calls
abbrev pub LoadIsCalls : Type 0
LoadIsCalls = (nv w limit n s : ℕ) (ops operands : List ℕ) → draw_refusal nv w limit ops operands ≡ 0
    → calls_from nv w limit n ops operands s ≡ record { forms = load_from nv w limit n s; state = load_state nv w limit n s }

-- 02, 2.2: the same inputs give the same load, whatever the arrays held
abbrev pub SameLoad : Type 0
SameLoad = (nv w limit n s : ℕ) (ops operands ops₂ operands₂ : List ℕ) → draw_refusal nv w limit ops operands ≡ 0 → draw_refusal nv w limit ops₂ operands₂ ≡ 0
    → calls_from nv w limit n ops operands s ≡ calls_from nv w limit n ops₂ operands₂ s

-- 02, 2.2: the state runs on from formula to formula
abbrev pub StateRunsOn : Type 0
StateRunsOn = (nv w limit n m s : ℕ) → load_from nv w limit (n + m) s ≡ load_from nv w limit n s ++ load_from nv w limit m (load_state nv w limit n s)

-- 02, 2.2: the first n formulas of a longer load are the load of n
abbrev pub FirstOfLonger : Type 0
FirstOfLonger = (nv w limit n m s : ℕ) → n ≤ m → take n (load_from nv w limit m s) ≡ load_from nv w limit n s
