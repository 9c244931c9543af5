-- `text_print::inner::decimal::put_two` meets its contract: two bytes. Assumes nothing.
use native.Mathlib.Omega.{arith}
use borrow.Author.Rules.{rules}
use lib.ListN.{length-set}
use Rattle.text_print.specs.Printing.{two_of}
use Rattle.text_print.proofs.Decimals.{two}
use Rattle.text_print.proofs.inner.decimal.put_two.Goals as goal

pub bounds-out-at-2 : goal.bounds-out-at-2
bounds-out-at-2 c = simp length-set (omega arith)

pub returns : goal.returns
unfolding two_of
returns c = record {
  wrote = two _ _;
  value = search rules;
}
