-- The formulas of the stock at their places, and that they pass what `under_unary` and `under_gate` ask for. Assumes nothing.
use mathlib.Core.Path.{◌≡◌, refl, sym, ap, ◌∙◌, subst}
use mathlib.Core.Bool.{Bool, true, cond}
use mathlib.Core.List.{List, [], ◌∷◌}
use lib.ListN.{get_or}
use Prim.Native.Nat.{ℕ, zero, suc, ◌-◌, ◌^◌, ◌≤◌, ◌<◌}
use borrow.Author.Tests.{ne_eqb, lt-ltb, le-ltb}
use native.Mathlib.Omega.{arith}
use Rattle.arith.specs.Word.{modulus}
use Rattle.arith.proofs.Remainders.{modulus-is}
use Rattle.row_gates.specs.Gates.{gate_at}
use Rattle.row_gates.specs.declared.Gate.{Gate}
use Rattle.row_gates.specs.declared.Gate.TheVariants.{And, Or, Xor, Add, Mul}
use Rattle.expr.specs.declared.Token.{Token}
use Rattle.expr.specs.declared.Token.TheVariants.{Variable, Binary, Not, Neg}
use Rattle.expr.specs.Formula.{is_formula}
use Rattle.expr.proofs.Formulas.{variable-passes, neg-passes}
use Rattle.expr_cost.specs.declared.CostInfo.{CostInfo}
use Rattle.expr_cost.specs.Cost.{info_of}
use Rattle.expr_cost.proofs.Formulas.{info_variable, info_neg}
use Rattle.probe_points.specs.declared.Point.{Point}
use Rattle.bank_spec.specs.Push.{atom_of}
use Rattle.bank_atom.specs.declared.Entry as Declared
use Rattle.bank_atom.specs.Entry.{entry_of, IsConstant}
use Rattle.bank_stock.specs.Cursor.{constant_at, variable_at}

-- a variable stands in v, and in v Neg, which passes the test
pub variable_varies : (i : ℕ) → (info_of (Variable i ∷ [])).varies ≡ true
variable_varies i = ap (λ (z : CostInfo). z.varies) (info_variable i)

pub minus_passes : (i : ℕ) → i < 6 → is_formula 6 (Variable i ∷ (Neg ∷ [])) ≡ true
minus_passes i h = neg-passes 6 (Variable i ∷ []) (variable-passes 6 i h) (omega arith)

pub minus_varies : (i : ℕ) → i < 6 → (info_of (Variable i ∷ (Neg ∷ []))).varies ≡ true
minus_varies i h = ap (λ (z : CostInfo). z.varies) (info_neg 6 (Variable i ∷ []) (variable-passes 6 i h)) ∙ variable_varies i

-- an equal formula has the same atom
pub entry-form : (w : ℕ) (points : List Point) {ts us : List Token} {r : Declared.Entry} → r ≡ entry_of (atom_of w points ts) → ts ≡ us → r ≡ entry_of (atom_of w points us)
entry-form w points h e = h ∙ ap (λ (z : List Token). entry_of (atom_of w points z)) e

-- the constants at their places
pub constant-low : (w k : ℕ) {r : Declared.Entry} → k < 3 → IsConstant w k r → IsConstant w (constant_at w k) r
constant-low w k {r} h p = subst (λ (v : ℕ). IsConstant w v r) (sym (ap (λ (b : Bool). cond b k (2 ^ w - 1)) (lt-ltb k 3 h))) p

pub constant-high : (w k v : ℕ) {r : Declared.Entry} → w ≤ 64 → 3 ≤ k → v ≡ modulus w - 1 → IsConstant w v r → IsConstant w (constant_at w k) r
constant-high w k v {r} l h e p =
    subst (λ (x : ℕ). IsConstant w x r) (e ∙ ap (λ (m : ℕ). m - 1) (modulus-is w l) ∙ sym (ap (λ (b : Bool). cond b k (2 ^ w - 1)) (le-ltb k 3 h))) p

-- the three forms of a variable at their places
pub variable_0 : (i k : ℕ) → k ≡ 0 → ◌≡◌ {A = List Token} (Variable i ∷ []) (variable_at i k)
variable_0 i k e = sym (ap (variable_at i) e)

pub variable_1 : (i k : ℕ) → k ≡ 1 → ◌≡◌ {A = List Token} (Variable i ∷ (Neg ∷ [])) (variable_at i k)
variable_1 i k e = sym (ap (variable_at i) e)

pub variable_2 : (i k : ℕ) → (k ≡ 0 → ⊥) → (k ≡ 1 → ⊥) → ◌≡◌ {A = List Token} (Variable i ∷ (Not ∷ [])) (variable_at i k)
variable_2 i k e f = rw (ne_eqb k 0 e, ne_eqb k 1 f)

-- the gates at their numbers
pub gates_at : (k : ℕ) (d : Gate) → k < 5 → get_or (And ∷ (Or ∷ (Xor ∷ (Add ∷ (Mul ∷ []))))) k d ≡ gate_at k
gates_at zero d h = refl
gates_at (suc zero) d h = refl
gates_at (suc (suc zero)) d h = refl
gates_at (suc (suc (suc zero))) d h = refl
gates_at (suc (suc (suc (suc zero)))) d h = refl
gates_at (suc (suc (suc (suc (suc k))))) d h = absurd (omega arith)

-- the gate at its place
pub pair-form : (i j k : ℕ) (g : Gate) → g ≡ gate_at k → ◌≡◌ {A = List Token} (Variable i ∷ (Variable j ∷ (Binary g ∷ []))) (Variable i ∷ (Variable j ∷ (Binary (gate_at k) ∷ [])))
pair-form i j k g e = ap (λ (z : Gate). Variable i ∷ (Variable j ∷ (Binary z ∷ []))) e
