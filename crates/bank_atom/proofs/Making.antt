-- Why the atoms that are made are those of their formulas: text, cost and row part by part. Assumes nothing.
use mathlib.Core.Path.{◌≡◌, refl, sym, ap, ◌∙◌, subst}
use mathlib.Core.Bool.{Bool, true}
use mathlib.Core.List.{List, [], ◌∷◌, ◌++◌, map, append_assoc}
use Prim.Native.Nat.{ℕ, ◌+◌, ◌%◌, ◌^◌, ◌≤◌, ◌<◌}
use native.Mathlib.Omega.{arith}
use lib.ListN.{length, get_or, replicate, length-map}
use Rattle.arith.specs.Word.{modulus, not_of, neg_of}
use Rattle.arith.proofs.Remainders.{modulus-is}
use Rattle.arrays.proofs.Fill.{Filled, filled-all}
use Rattle.arrays.proofs.Lists.{get_d_map}
use Rattle.row_gates.specs.Gates.{gate_row}
use Rattle.row_gates.specs.declared.Gate.{Gate}
use Rattle.expr.specs.declared.Token.{Token}
use Rattle.expr.specs.declared.Token.TheVariants.{Constant, Variable, Binary}
use Rattle.expr.specs.Formula.{opcode_of, operand_of, is_formula}
use Rattle.expr_eval.proofs.Formulas.{value-variable}
use Rattle.expr_cost.specs.declared.Cost.{Cost}
use Rattle.expr_cost.specs.declared.CostInfo.{CostInfo}
use Rattle.expr_cost.specs.Cost.{under_unary, under_gate, is_nonlinear, info_unary, info_of, cost_of, Roomy}
use Rattle.expr_cost.proofs.Formulas.{info_constant, info_variable, info_not, info_neg, info_gate_lem, cost_roomy}
use Rattle.probe_points.specs.declared.Point.{Point}
use Rattle.probe.specs.FormulaRow.{row_of}
use Rattle.probe.proofs.FormulaRows.{length-row_of, get_or-row_of}
use Rattle.bank_spec.specs.Push.{atom_of}
use Rattle.bank_spec.specs.Encoding.{pad_to, ops_part, operands_part}
use Rattle.bank_spec.proofs.AtomRows.{row-constant, row-neg, row-not, row-gate}
use Rattle.bank_atom.specs.declared.Formula.{Formula}
use Rattle.bank_atom.specs.declared.Unary.{Unary}
use Rattle.bank_atom.specs.declared.Unary.TheVariants as U
use Rattle.bank_atom.specs.declared.Entry as Declared
use Rattle.bank_atom.specs.Entry.{entry_of, text_of, leaf_of, unary_token, unary_of, unary_row, IsConstant, Longer, Joined, GateText, Extends, UnderUnary, Joins, UnderGate}

-- ---- text, cost and row of an atom
module _ (w : ℕ) (points : List Point) (ts : List Token) where
  -- an atom by value is its formula's if its three parts are
  pub entry-is : (r : Declared.Entry) → r.text ≡ text_of ts → r.cost ≡ cost_of ts → r.row ≡ row_of w points ts → r ≡ entry_of (atom_of w points ts)
  unfolding atom_of ops_part operands_part
  entry-is r t c o = λ i. record { text = t i; cost = c i; row = o i }

  -- and the three parts of such an atom
  pub entry-text : {e : Declared.Entry} → e ≡ entry_of (atom_of w points ts) → e.text ≡ text_of ts
  unfolding atom_of ops_part operands_part
  entry-text h = ap (λ (x : Declared.Entry). x.text) h

  pub entry-cost : {e : Declared.Entry} → e ≡ entry_of (atom_of w points ts) → e.cost ≡ cost_of ts
  unfolding atom_of ops_part operands_part
  entry-cost h = ap (λ (x : Declared.Entry). x.cost) h

  pub entry_row : {e : Declared.Entry} → e ≡ entry_of (atom_of w points ts) → e.row ≡ row_of w points ts
  unfolding atom_of ops_part operands_part
  entry_row h = ap (λ (x : Declared.Entry). x.row) h

-- ---- one token
-- what `constant` makes
pub constant-is : (w v x : ℕ) (r : Declared.Entry) → x ≡ v % 2 ^ w → r ≡ leaf_of 0 v (replicate 16 x) → IsConstant w v r
unfolding pad_to
constant-is w v x r ex e = record {
  is = λ points h.
      entry-is w points (Constant v ∷ []) r
      (ap (λ (z : Declared.Entry). z.text) e)
      (ap (λ (z : Declared.Entry). z.cost) e ∙ sym (ap (λ (z : CostInfo). z.cost) (info_constant v)))
      (ap (λ (z : Declared.Entry). z.row) e ∙ ap (λ (z : ℕ). replicate 16 z) ex ∙ ap (λ (n : ℕ). replicate n (v % 2 ^ w)) (sym h) ∙ sym (row-constant w points v));
}

-- what `variable` makes
pub variable-is : (w i : ℕ) (points : List Point) (row : List ℕ) (r : Declared.Entry) → row ≡ row_of w points (Variable i ∷ []) → r ≡ leaf_of 1 i row
    → r ≡ entry_of (atom_of w points (Variable i ∷ []))
unfolding pad_to
variable-is w i points row r er e =
    entry-is w points (Variable i ∷ []) r
    (ap (λ (z : Declared.Entry). z.text) e)
    (ap (λ (z : Declared.Entry). z.cost) e ∙ sym (ap (λ (z : CostInfo). z.cost) (info_variable i)))
    (ap (λ (z : Declared.Entry). z.row) e ∙ er)

module _ (w i : ℕ) (points : List Point) where
  -- one place of a variable's row
  pub variable-word : (d : Point) (k r : ℕ) → w ≤ 64 → k < length points → r ≡ get_or (get_or points k d).words i 0 % modulus w → r ≡ get_or (row_of w points (Variable i ∷ [])) k 0
  variable-word d k r h l e =
      e ∙ ap (λ (m : ℕ). get_or (get_or points k d).words i 0 % m) (modulus-is w h) ∙ sym (value-variable w (get_or points k d).words i) ∙ sym (get_or-row_of w points (Variable i ∷ []) d k l)

  -- all sixteen places of it
  pub variable-row-is : (out : List ℕ) (k : ℕ) → length out ≡ length points → length out ≤ k → Filled (λ (j : ℕ). get_or (row_of w points (Variable i ∷ [])) j 0) out k
      → out ≡ row_of w points (Variable i ∷ [])
  variable-row-is out k e h filled =
      filled-all (λ (j : ℕ). get_or (row_of w points (Variable i ∷ [])) j 0) out (row_of w points (Variable i ∷ [])) k
      (e ∙ sym (length-row_of w points (Variable i ∷ []))) h filled (λ j lt. refl)

-- ---- Neg and Not
-- a row whose places are all passed
pub unary_row-is : (u : Unary) (w : ℕ) (row out : List ℕ) (k : ℕ) → length out ≡ length row → length out ≤ k → Filled (λ (j : ℕ). unary_of u w (get_or row j 0)) out k → out ≡ unary_row u w row
unfolding unary_row
unary_row-is u w row out k e h filled =
    filled-all (λ (j : ℕ). unary_of u w (get_or row j 0)) out (map (unary_of u w) row) k
    (e ∙ sym (length-map row (unary_of u w))) h filled (λ j lt. get_d_map (unary_of u w) row j 0 0 (omega (arith, length-map row (unary_of u w))))

-- what `mod_neg` and `mod_not` of arith give where the width is at most 64
pub neg-lane : (u : Unary) (w v r : ℕ) → w ≤ 64 → u ≡ U.Neg → r ≡ neg_of (modulus w) v → r ≡ unary_of u w v
unfolding unary_of
neg-lane u w v r h e q = q ∙ ap (λ (m : ℕ). neg_of m v) (modulus-is w h) ∙ ap (λ (z : Unary). unary_of z w v) (sym e)

pub not-lane : (u : Unary) (w v r : ℕ) → w ≤ 64 → u ≡ U.Not → r ≡ not_of (modulus w) v → r ≡ unary_of u w v
unfolding unary_of
not-lane u w v r h e q = q ∙ ap (λ (m : ℕ). not_of m v) (modulus-is w h) ∙ ap (λ (z : Unary). unary_of z w v) (sym e)

-- Neg and Not have no operand
pub unary_operand : (u : Unary) → operand_of (unary_token u) ≡ 0
unary_operand U.Neg = refl
unary_operand U.Not = refl

module _ (nv : ℕ) (ts : List Token) (f : is_formula nv ts ≡ true) where
  -- the row, and the cost with its mark, of a formula under Neg or Not
  row_unary : (w : ℕ) (points : List Point) (u : Unary) → unary_row u w (row_of w points ts) ≡ row_of w points (ts ++ (unary_token u ∷ []))
  unfolding unary_row unary_of
  row_unary w points U.Neg = sym (row-neg w nv ts f points)
  row_unary w points U.Not = sym (row-not w nv ts f points)

  info_unary_lem : (u : Unary) → info_of (ts ++ (unary_token u ∷ [])) ≡ info_unary (info_of ts)
  info_unary_lem U.Neg = info_neg nv ts f
  info_unary_lem U.Not = info_not nv ts f

-- what `under_unary` makes
pub under_unary_is : (w opcode : ℕ) (u : Unary) (e r : Declared.Entry) → opcode ≡ opcode_of (unary_token u) → Longer e.text opcode r.text
    → r.cost ≡ under_unary e.cost → r.row ≡ unary_row u w e.row → UnderUnary w u e r
under_unary_is w opcode u e r eo text cost row = record {
  is = λ nv points ts f h.
      entry-is w points (ts ++ (unary_token u ∷ [])) r
      (text.is ts (unary_token u) (entry-text w points ts h) eo (unary_operand u))
      (cost ∙ ap under_unary (entry-cost w points ts h) ∙ sym (ap (λ (z : CostInfo). z.cost) (info_unary_lem nv ts f u)))
      (row ∙ ap (unary_row u w) (entry_row w points ts h) ∙ row_unary nv ts f w points u);
}

-- ---- gates
-- what `gate_text` makes: both texts, then the gate's token
pub gate-text-is : (g : Gate) (a b both r : Formula) (opcode : ℕ) → opcode ≡ opcode_of (Binary g) → Joined a b both → Longer both opcode r → GateText g a b r
gate-text-is g a b both r opcode eo join more = record {
  is = λ ts us ea eb. more.is (ts ++ us) (Binary g) (join.is ts us ea eb) eo refl ∙ ap text_of (append_assoc ts us (Binary g ∷ []));
}

module _ (nv : ℕ) (ts us : List Token) (f : is_formula nv ts ≡ true) (k : is_formula nv us ≡ true) where
  -- the cost of a gate, from the costs and the marks of its operands
  cost-gate : (g : Gate) (x y : Bool) (a b : Cost) → (info_of ts).varies ≡ x → (info_of us).varies ≡ y → a ≡ cost_of ts → b ≡ cost_of us
      → under_gate (is_nonlinear g x y) a b ≡ cost_of (ts ++ (us ++ (Binary g ∷ [])))
  cost-gate g x y a b ex ey ea eb =
      (λ i. under_gate (is_nonlinear g (sym ex i) (sym ey i)) (ea i) (eb i)) ∙ sym (ap (λ (z : CostInfo). z.cost) (info_gate_lem nv ts f us k g))

-- what `under_gate` makes
pub under_gate-is : (w : ℕ) (g : Gate) (x y : Bool) (a b r : Declared.Entry) → GateText g a.text b.text r.text
    → r.cost ≡ under_gate (is_nonlinear g x y) a.cost b.cost → r.row ≡ gate_row g w a.row b.row → UnderGate w g x y a b r
under_gate-is w g x y a b r text cost row = record {
  is = λ nv points ts us f k ex ey ea eb.
      entry-is w points (ts ++ (us ++ (Binary g ∷ []))) r
      (text.is ts us (entry-text w points ts ea) (entry-text w points us eb))
      (cost ∙ cost-gate nv ts us f k g x y a.cost b.cost ex ey (entry-cost w points ts ea) (entry-cost w points us eb))
      (row ∙ (λ i. gate_row g w (entry_row w points ts ea i) (entry_row w points us eb i)) ∙ sym (row-gate w nv ts f us k g points));
}

-- ---- what `under_unary` and `under_gate` ask for holds of the atom of every formula that is short enough
module _ (w nv : ℕ) (points : List Point) (fits : w ≤ 64) where
  entry-len : (ts : List Token) {e : Declared.Entry} → e ≡ entry_of (atom_of w points ts) → e.text.len ≡ length ts
  entry-len ts h = ap (λ (x : Formula). x.len) (entry-text w points ts h)

  entry_roomy : (ts : List Token) → is_formula nv ts ≡ true → {e : Declared.Entry} → e ≡ entry_of (atom_of w points ts) → Roomy e.cost
  entry_roomy ts f h = subst Roomy (sym (entry-cost w points ts h)) (cost_roomy nv ts f)

  -- a formula of at most five tokens may get one more
  pub extends : (ts : List Token) → is_formula nv ts ≡ true → length ts < 6 → {e : Declared.Entry} → e ≡ entry_of (atom_of w points ts) → Extends w e
  extends ts f l h = record { width = fits; room = omega (arith, entry-len ts h); cost = entry_roomy ts f h }

  -- two formulas of at most five tokens together may be joined by a gate
  pub joins : (ts us : List Token) → is_formula nv ts ≡ true → is_formula nv us ≡ true → length ts + length us < 6
      → {a b : Declared.Entry} → a ≡ entry_of (atom_of w points ts) → b ≡ entry_of (atom_of w points us) → Joins w a b
  joins ts us f k l ha hb = record {
    width = fits;
    room = omega (arith, entry-len ts ha, entry-len us hb);
    left = entry_roomy ts f ha;
    right = entry_roomy us k hb;
  }
