-- `text_print::inner::decimal::write_four` meets its contract: what is left, and the last digits after it. Assumes nothing.
use native.Mathlib.Omega.{arith}
use borrow.Author.Rules.{rules}
use mathlib.Core.Path.{sym}
use Rattle.text_print.proofs.Decimals.{then, reads, decimal_twos}
use Rattle.text_print.proofs.inner.decimal.write_four.Goals as goal

pub returns : goal.returns
returns c = record {
  wrote = reads (sym (decimal_twos c.args.x (omega arith) (search rules))) (then c.write_two-p.ensures.wrote c.put_two.ensures.wrote);
  upper_bound = omega (arith, c.write_two-p.ensures.upper_bound, c.put_two.ensures.value);
}
