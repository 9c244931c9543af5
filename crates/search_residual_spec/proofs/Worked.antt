-- The small cases, by computing. Assumes nothing.
use mathlib.Core.Path.{refl}
use Rattle.arrays.specs.Lists.{count_up, first_that}
use Rattle.arrays.specs.Parts.{part_at}
use Rattle.row_gates.specs.Gates.{residual_of, residual_row, same_row}
use Rattle.search_residual_trial.specs.Trying.{hits, lookups, under_gate, try_residuals}
use Rattle.search_residual_spec.specs.Cases.{Cases}

pub cases : Cases
unfolding try_residuals under_gate lookups hits residual_of residual_row same_row count_up first_that part_at
cases = record {
  xor_first = refl;
  atom-first = refl;
  bank-first = refl;
  least-pair = refl;
  then_add = refl;
  raw_atom = refl;
  slot-before = refl;
  from-above = refl;
  raw_part = refl;
  counted = refl;
  last_word = refl;
  first_word = refl;
}
