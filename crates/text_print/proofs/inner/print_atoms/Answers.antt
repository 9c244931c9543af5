-- `text_print::inner::print_atoms` meets its contract: costs, then formulas. Assumes nothing.
use native.Mathlib.Omega.{arith}
use Rattle.text_print.proofs.Decimals.{then}
use Rattle.text_print.proofs.inner.print_atoms.Goals as goal

pub returns : goal.returns
returns c = record {
  wrote = then c.print_lines-after.ensures.wrote c.print_formulas.ensures.wrote;
  upper_bound = omega (arith, c.print_lines-after.ensures.upper_bound, c.print_formulas.ensures.upper_bound);
}
