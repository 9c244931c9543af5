-- `text_print::inner::lines::print_head` meets its contract: the two counts by their words, and the mark. Assumes nothing.
use native.Mathlib.Omega.{arith}
use Rattle.text_print.specs.Text.{head_line}
use Rattle.text_print.proofs.Decimals.{then}
use Rattle.text_print.proofs.inner.lines.print_head.Goals as goal

pub returns : goal.returns
unfolding head_line
returns c = record {
  wrote = then c.write_named-p.ensures.wrote (then c.write_named-q.ensures.wrote c.print_mark.ensures.wrote);
  upper_bound = omega (arith, c.write_named-p.ensures.upper_bound, c.write_named-q.ensures.upper_bound, c.print_mark.ensures.upper_bound);
}
