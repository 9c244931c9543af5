-- An atom by value, and what the functions promise that make one. Assumes nothing.
use Rattle.std.specs.Prelude.{◌≡◌, Bool, true, List, [], ◌∷◌, ◌++◌, map, ℕ, ◌+◌, ◌^◌, ◌≤◌, ◌<◌, length}
use Rattle.arith.specs.Word.{not_of, neg_of}
use Rattle.row_gates.specs.declared.Gate.{Gate}
use Rattle.expr.specs.declared.Token.{Token}
use Rattle.expr.specs.declared.Token.TheVariants.{Constant, Binary, Not, Neg}
use Rattle.expr.specs.Formula.{opcode_of, operand_of, is_formula}
use Rattle.expr_cost.specs.Cost.{leaf_cost, info_of, Roomy}
use Rattle.probe_points.specs.declared.Point.{Point}
use Rattle.bank_spec.specs.Push.{Atom, atom_of}
use Rattle.bank_spec.specs.Encoding.{pad_to, ops_part, operands_part}
use Rattle.bank_atom.specs.declared.Formula.{Formula}
use Rattle.bank_atom.specs.declared.Unary.{Unary}
use Rattle.bank_atom.specs.declared.Unary.TheVariants as U
use Rattle.bank_atom.specs.declared.Entry as Declared

-- 01, From heap ..: per atom one length, 6 opcodes, 6 operands, 3 cost numbers and 16 row words
abbrev pub entry_of : Atom → Declared.Entry
entry_of a = record {
  text = record { len = length a.form; ops = ops_part a; operands = operands_part a };
  cost = a.cost;
  row = a.row;
}

-- 01, From heap ..: unused token places hold opcode 255 and operand 0
abbrev pub text_of : List Token → Formula
text_of ts = record { len = length ts; ops = pad_to 6 255 (map opcode_of ts); operands = pad_to 6 0 (map operand_of ts) }

-- ---- one token
-- an atom of one token, whose opcode, operand and row are given; 01, expr_cost.rs: a leaf costs (1, 0, 1)
abbrev pub leaf_of : ℕ → ℕ → List ℕ → Declared.Entry
leaf_of opcode operand row = record {
  text = record {
    len = 1;
    ops = opcode ∷ (255 ∷ (255 ∷ (255 ∷ (255 ∷ (255 ∷ [])))));
    operands = operand ∷ (0 ∷ (0 ∷ (0 ∷ (0 ∷ (0 ∷ [])))));
  };
  cost = leaf_cost;
  row = row;
}

-- the atom of a constant, whatever the sixteen points are
pub record IsConstant (w v : ℕ) (r : Declared.Entry) : Type 0 where
  pub is : (points : List Point) → length points ≡ 16 → r ≡ entry_of (atom_of w points (Constant v ∷ []))

-- ---- Neg and Not
-- the token of each
abbrev pub unary_token : Unary → Token
unary_token U.Neg = Neg
unary_token U.Not = Not

-- 01, evaluator.rs: Not is 2^w - 1 - v; Neg is taken modulo 2^w
unfoldable pub unary_of : Unary → ℕ → ℕ → ℕ
unary_of U.Neg w v = neg_of (2 ^ w) v
unary_of U.Not w v = not_of (2 ^ w) v

-- the same at each of the sixteen points
unfoldable pub unary_row : Unary → ℕ → List ℕ → List ℕ
unfolding unary_of
unary_row u w row = map (unary_of u w) row

-- whatever formula f holds, r holds it with one token more, whose operand is 0
pub record Longer (f : Formula) (opcode : ℕ) (r : Formula) : Type 0 where
  pub is : (ts : List Token) (t : Token) → f ≡ text_of ts → opcode ≡ opcode_of t → operand_of t ≡ 0 → r ≡ text_of (ts ++ (t ∷ []))

-- what is asked of an atom that gets a token more
pub record Extends (w : ℕ) (e : Declared.Entry) : Type 0 where
  pub width : w ≤ 64
  pub room : e.text.len < 6
  pub cost : Roomy e.cost

-- whatever formula e is the atom of, r is the atom of that formula under Neg or Not
pub record UnderUnary (w : ℕ) (u : Unary) (e r : Declared.Entry) : Type 0 where
  pub is : (nv : ℕ) (points : List Point) (ts : List Token) → is_formula nv ts ≡ true
      → e ≡ entry_of (atom_of w points ts) → r ≡ entry_of (atom_of w points (ts ++ (unary_token u ∷ [])))

-- ---- gates
-- whatever formulas a and b hold, r holds the tokens of a, then those of b
pub record Joined (a b r : Formula) : Type 0 where
  pub len : r.len ≡ a.len + b.len
  pub is : (ts us : List Token) → a ≡ text_of ts → b ≡ text_of us → r ≡ text_of (ts ++ us)

-- the same, and the gate's token after them
pub record GateText (g : Gate) (a b r : Formula) : Type 0 where
  pub is : (ts us : List Token) → a ≡ text_of ts → b ≡ text_of us → r ≡ text_of (ts ++ (us ++ (Binary g ∷ [])))

-- what is asked of two atoms that a gate joins
pub record Joins (w : ℕ) (a b : Declared.Entry) : Type 0 where
  pub width : w ≤ 64
  pub room : a.text.len + b.text.len < 6
  pub left : Roomy a.cost
  pub right : Roomy b.cost

-- whatever formulas a and b are the atoms of, r is the atom of the gate of both. The two marks are those of the formulas: whether a variable stands in them
pub record UnderGate (w : ℕ) (g : Gate) (aVaries bVaries : Bool) (a b r : Declared.Entry) : Type 0 where
  pub is : (nv : ℕ) (points : List Point) (ts us : List Token) → is_formula nv ts ≡ true → is_formula nv us ≡ true
      → (info_of ts).varies ≡ aVaries → (info_of us).varies ≡ bVaries
      → a ≡ entry_of (atom_of w points ts) → b ≡ entry_of (atom_of w points us)
      → r ≡ entry_of (atom_of w points (ts ++ (us ++ (Binary g ∷ []))))
