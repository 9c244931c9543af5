-- How much a bank and an index hold at most, and what turns back a lent count of rows. Assumes nothing.
use Rattle.std.specs.Prelude.{Bool, List, ℕ, ◌/◌, ltb, length}

-- 01, From heap ..: lent arrays for 479 atoms. 01, Turned back, 3 and 7: L and the pairs claimed are at most 262,144
abbrev pub atoms_max : ℕ
atoms_max = 479

abbrev pub pairs_max : ℕ
pairs_max = 262144

-- 01, Turned back, 4: a lent array shorter than its count needs: sixteen words for each row
abbrev pub too_few_rows : ℕ → List ℕ → Bool
too_few_rows count rows = ltb (length rows / 16) count

-- 01, Turned back, 7: more than 479 atoms or 262,144 pairs claimed
abbrev pub too_many_atoms : ℕ → Bool
too_many_atoms count = ltb atoms_max count

abbrev pub too_many_pairs : ℕ → Bool
too_many_pairs n = ltb pairs_max n
