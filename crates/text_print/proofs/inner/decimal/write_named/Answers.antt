-- `text_print::inner::decimal::write_named` meets its contract: the word, and the number after it. Assumes nothing.
use native.Mathlib.Omega.{arith}
use Rattle.text_print.proofs.Decimals.{then}
use Rattle.text_print.proofs.inner.decimal.write_named.Goals as goal

pub returns : goal.returns
returns c = record {
  wrote = then c.put-p.ensures c.write_field.ensures.wrote;
  upper_bound = omega (arith, c.put-p.ensures.next);
}
