-- From a list of atoms to 01's five arrays. Assumes nothing.
use Rattle.std.specs.Prelude.{List, [], ◌∷◌, map, ℕ, zero, suc, length}
use Rattle.arrays.specs.Parts.{spread}
use Rattle.expr.specs.Formula.{opcode_of, operand_of}
use Rattle.expr_cost.specs.declared.Cost.{Cost}
use Rattle.bank_spec.specs.Push.{Atom}

-- the first s of l, with d in the places that l does not have: always s elements
unfoldable pub pad_to : ℕ → ℕ → List ℕ → List ℕ
pad_to zero d l = []
pad_to (suc s) d [] = d ∷ pad_to s d []
pad_to (suc s) d (x ∷ l) = x ∷ pad_to s d l

-- 01, From heap ..: per atom one length, 6 opcodes, 6 operands, 3 cost numbers and 16 row words. Unused token places hold opcode 255 and operand 0
abbrev pub length_part : Atom → List ℕ
length_part a = length a.form ∷ []

unfoldable pub ops_part : Atom → List ℕ
unfolding pad_to
ops_part a = pad_to 6 255 (map opcode_of a.form)

unfoldable pub operands_part : Atom → List ℕ
unfolding pad_to
operands_part a = pad_to 6 0 (map operand_of a.form)

abbrev pub cost_numbers : Cost → List ℕ
cost_numbers c = c.size ∷ (c.products ∷ (c.depth ∷ []))

abbrev pub cost_part : Atom → List ℕ
cost_part a = cost_numbers a.cost

unfoldable pub row_part : Atom → List ℕ
unfolding pad_to
row_part a = pad_to 16 0 a.row

-- 01, From heap ..: the five lent arrays
pub record Arrays : Type 0 where
  pub lengths : List ℕ
  pub ops : List ℕ
  pub operands : List ℕ
  pub costs : List ℕ
  pub rows : List ℕ

-- 01, Places beyond the counts in a lent output stay unchanged: the arrays that hold the bank, over what they held before
abbrev pub written : List Atom → Arrays → Arrays
written bank old = record {
  lengths = spread 1 length_part bank old.lengths;
  ops = spread 6 ops_part bank old.ops;
  operands = spread 6 operands_part bank old.operands;
  costs = spread 3 cost_part bank old.costs;
  rows = spread 16 row_part bank old.rows;
}
