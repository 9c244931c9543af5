-- What turns back the formulas of a lent bank and index. Assumes nothing.
use Rattle.std.specs.Prelude.{Bool, not, ◌||◌, ℕ, ◌/◌, ltb, leb, length, get_or}
use Rattle.arrays.specs.Lists.{count_up, first_that}
use Rattle.expr.specs.Formula.{is_some, is_formula}
use Rattle.search_product_forms.specs.Forms.{Forms, atom_form, pair_gate, pair_b, pair_c}

-- some number below n passes the test
abbrev pub some_below : ℕ → (ℕ → Bool) → Bool
some_below n test = is_some (first_that test (count_up 0 n))

-- 01, Turned back, 4: a lent array shorter than its count needs: per atom one length, 6 opcodes, 6 operands; 3 words per pair
abbrev pub short_forms : ℕ → ℕ → Forms → Bool
short_forms count n f =
    ltb (length f.lengths) count || (ltb (length f.ops / 6) count || (ltb (length f.operands / 6) count || ltb (length f.pairs / 3) n))

-- 02, 2.4: 6 also covers an atom over 6 tokens or failing 01's test with six variables. An atom has six places, so that a seventh token is none: the first part
-- says what the second implies
abbrev pub bad_atom : Forms → ℕ → Bool
bad_atom f k = ltb 6 (get_or f.lengths k 0) || not (is_formula 6 (atom_form f k))

-- 02, 2.4: and 7 a pair with a gate above 4 or an atom slot not below the count
abbrev pub bad_words : ℕ → ℕ → ℕ → ℕ → Bool
bad_words count gate b c = ltb 4 gate || (leb count b || leb count c)

abbrev pub bad_pair : ℕ → Forms → ℕ → Bool
bad_pair count f s = bad_words count (pair_gate f s) (pair_b f s) (pair_c f s)

-- of the claimed ones, however many
abbrev pub bad_atoms : ℕ → Forms → Bool
bad_atoms count f = some_below count (bad_atom f)

abbrev pub bad_pairs : ℕ → ℕ → Forms → Bool
bad_pairs count n f = some_below n (bad_pair count f)
