-- Formulas that no refusal turns back, as the contracts of the search have them. Assumes nothing.
use Rattle.std.specs.Prelude.{◌≡◌, true, List, ℕ, ◌*◌, ◌≤◌, ◌<◌, length, get_or}
use Rattle.expr.specs.Formula.{is_formula}
use Rattle.search_product_forms.specs.Forms.{Forms, atom_form, pair_b, pair_c}

-- the four arrays
abbrev pub forms : List ℕ → List ℕ → List ℕ → List ℕ → Forms
forms lengths ops operands pairs = record { lengths = lengths; ops = ops; operands = operands; pairs = pairs }

-- arrays long enough for `count` atoms
pub record Room (count : ℕ) (f : Forms) : Type 0 where
  pub lengths : count ≤ length f.lengths
  pub ops : 6 * count ≤ length f.ops
  pub operands : 6 * count ≤ length f.operands

-- recorded lengths of at most 6
pub record Short (count : ℕ) (lengths : List ℕ) : Type 0 where
  pub fit : count ≤ length lengths
  pub most : (k : ℕ) → k < count → get_or lengths k 0 ≤ 6

-- each atom is a formula of at most 6 tokens
pub record Written (count : ℕ) (f : Forms) : Type 0 where
  pub room : Room count f
  pub few : count ≤ 479
  pub short : Short count f.lengths
  pub formula : (k : ℕ) → k < count → is_formula 6 (atom_form f k) ≡ true

-- and n pairs of them
pub record Paired (count n : ℕ) (f : Forms) : Type 0 where
  pub pairs : 3 * n ≤ length f.pairs
  pub b-below : (s : ℕ) → s < n → pair_b f s < count
  pub c-below : (s : ℕ) → s < n → pair_c f s < count
