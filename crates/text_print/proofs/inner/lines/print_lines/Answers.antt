-- `text_print::inner::lines::print_lines` meets its contract: the first k lines are written. Assumes nothing.
use mathlib.Core.Path.{ap}
use borrow.Author.Rules.{rules}
use Rattle.text_print.specs.Printing.{lines_text, numbers_at}
use Rattle.text_print.proofs.Decimals.{reads}
use Rattle.text_print.proofs.Listings.{no_lines, line-more}
use Rattle.text_print.proofs.inner.lines.print_lines.Goals as goal

pub loop-k-init : goal.loop-k-init
loop-k-init c = (search rules, search rules, no_lines _)

pub loop-k-preserved : goal.loop-k-preserved
loop-k-preserved c = (search rules, search rules, line-more _ _ c.loop-k.invariant.2 c.print_line-p.ensures.wrote)

pub returns : goal.returns
returns c = record {
  wrote = reads (ap (lines_text (numbers_at c.args.numbers.now)) (search rules)) c.loop-k.invariant.2;
  upper_bound = search rules;
}
