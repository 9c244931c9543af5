-- `text_print::inner::print_refusal` meets its contract: the word, and the number after it. Assumes nothing.
use native.Mathlib.Omega.{arith}
use Rattle.text_print.specs.Text.{refused_line}
use Rattle.text_print.proofs.inner.print_refusal.Goals as goal

pub returns : goal.returns
unfolding refused_line
returns c = record {
  wrote = c.write_named.ensures.wrote;
  upper_bound = omega (arith, c.write_named.ensures.upper_bound);
}
