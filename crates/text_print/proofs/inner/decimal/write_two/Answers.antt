-- `text_print::inner::decimal::write_two` meets its contract: one digit or two. Assumes nothing.
use native.Mathlib.Omega.{arith}
use borrow.Author.Rules.{rules}
use mathlib.Core.Path.{sym}
use Rattle.text_print.proofs.Decimals.{one, reads, decimal-small, decimal-two}
use Rattle.text_print.proofs.inner.decimal.write_two.Goals as goal

pub returns-then-x-lt10 : goal.returns-then-x-lt10
returns-then-x-lt10 c = record {
  wrote = reads (sym (decimal-small c.args.x (omega arith))) (one _);
  upper_bound = search rules;
}

pub returns : goal.returns
returns c = record {
  wrote = reads (sym (decimal-two c.args.x (omega arith) (omega arith))) c.put_two.ensures.wrote;
  upper_bound = omega (arith, c.put_two.ensures.value);
}
