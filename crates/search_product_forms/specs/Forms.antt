-- The formulas of a lent bank and index, written out. Assumes nothing.
use Rattle.std.specs.Prelude.{List, [], ◌∷◌, ◌++◌, ℕ, ◌+◌, ◌*◌, get_or}
use Rattle.arrays.specs.Parts.{part_at}
use Rattle.row_gates.specs.Gates.{gate_at}
use Rattle.row_gates.specs.declared.Gate.{Gate}
use Rattle.expr.specs.declared.Token.{Token}
use Rattle.expr.specs.declared.Token.TheVariants.{Binary}
use Rattle.expr.specs.Formula.{tokens}

-- 02, 2.4: trying everything is fed the atoms' formulas and the pairs' gates and atom slots as well. 01, From heap ..: per atom one length, 6 opcodes,
-- 6 operands; gate, b, c per pair
pub record Forms : Type 0 where
  pub lengths : List ℕ
  pub ops : List ℕ
  pub operands : List ℕ
  pub pairs : List ℕ

-- atom k's formula: its recorded length, and its own opcodes and operands
unfoldable pub atom_form : Forms → ℕ → List Token
unfolding tokens part_at
atom_form f k = tokens (get_or f.lengths k 0) (part_at 6 f.ops k) (part_at 6 f.operands k)

-- 01, From heap ..: gate, b, c of pair s
abbrev pub pair_gate : Forms → ℕ → ℕ
pair_gate f s = get_or f.pairs (3 * s) 0

abbrev pub pair_b : Forms → ℕ → ℕ
pair_b f s = get_or f.pairs (3 * s + 1) 0

abbrev pub pair_c : Forms → ℕ → ℕ
pair_c f s = get_or f.pairs (3 * s + 2) 0

-- two formulas under a gate, written out in postfix
abbrev pub gated : List Token → List Token → Gate → List Token
gated a b g = a ++ (b ++ (Binary g ∷ []))

-- pair s written out: b, c, gate
unfoldable pub pair_form : Forms → ℕ → List Token
unfolding atom_form
pair_form f s = gated (atom_form f (pair_b f s)) (atom_form f (pair_c f s)) (gate_at (pair_gate f s))
