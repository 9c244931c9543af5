-- `text_print::inner::decimal::put_four` meets its contract: two pairs. Assumes nothing.
use borrow.Author.Rules.{rules}
use Rattle.text_print.specs.Printing.{four_of}
use Rattle.text_print.proofs.Decimals.{then}
use Rattle.text_print.proofs.inner.decimal.put_four.Goals as goal

pub returns : goal.returns
unfolding four_of
returns c = record {
  wrote = then c.put_two-p.ensures.wrote c.put_two.ensures.wrote;
  value = search rules;
}
