-- How pairs stand in the lent arrays of an index. Assumes nothing.
use Rattle.std.specs.Prelude.{List, [], ◌∷◌, ℕ}
use Rattle.row_gates.specs.Gates.{gate_number}
use Rattle.index_spec.specs.Index.{Pair}

-- 01, From heap ..: gate, b, c per pair
abbrev pub pair_part : Pair → List ℕ
pair_part p = gate_number p.gate ∷ (p.b ∷ (p.c ∷ []))

-- 01, From heap ..: 16L u64 (rows)
abbrev pub pair_row : Pair → List ℕ
pair_row p = p.row
