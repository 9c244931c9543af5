-- The small cases, by computing. Assumes nothing.
use mathlib.Core.Path.{refl}
use mathlib.Core.List.{flat_map}
use lib.Count.{count_trailing_zeros}
use Rattle.arrays.specs.Lists.{count_up}
use Rattle.arrays.specs.Least.{kept, keep_least, least_that}
use Rattle.arrays.specs.Parts.{part_at}
use Rattle.row_gates.specs.Gates.{gate_of, gate_row, same_row}
use Rattle.expr.specs.Formula.{token_of, token_at, tokens, step, run, only, whole, or_else}
use Rattle.expr_cost.specs.Cost.{is_nonlinear, cost_alg, info_of, is_better}
use Rattle.index_order.specs.Order.{before, inserted, order_of}
use Rattle.search_equation.specs.Equation.{used}
use Rattle.search_product_forms.specs.Forms.{atom_form, pair_form}
use Rattle.search_product_trial.specs.Trying.{fits, fitting, slots_for, with_atoms, with_pairs, trials_of, product_form, product_cost, cheaper, try_everything}
use Rattle.search_product_trial.specs.Cases.{Cases}

pub cases : Cases
unfolding try_everything trials_of with_atoms with_pairs slots_for fitting fits gate_row gate_of same_row count_up flat_map part_at least_that keep_least kept cheaper product_cost product_form pair_form atom_form tokens token_at token_of info_of cost_alg is_nonlinear whole run step only or_else is_better used count_trailing_zeros before inserted order_of
cases = record {
  together = refl;
  first-atoms = refl;
  atoms-first = refl;
  by_first-word = refl;
  by_slot = refl;
  gate-counts = refl;
  products_decide = refl;
  depth_decides = refl;
  both_sides = refl;
  nothing = refl;
}
