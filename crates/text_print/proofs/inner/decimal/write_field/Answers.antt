-- `text_print::inner::decimal::write_field` meets its contract: the digits, and one byte more. Assumes nothing.
use native.Mathlib.Omega.{arith}
use Rattle.text_print.proofs.Decimals.{decimal-length, one_more}
use Rattle.text_print.proofs.inner.decimal.write_field.Goals as goal

pub bounds-out-p : goal.bounds-out-p
bounds-out-p c = omega (arith, c.write_decimal-p.ensures.next, decimal-length c.args.x)

pub overflow_add-result : goal.overflow_add-result
overflow_add-result c = omega (arith, c.write_decimal-p.ensures.next, decimal-length c.args.x)

pub returns : goal.returns
returns c = record {
  wrote = one_more _ c.write_decimal-p.ensures;
  upper_bound = omega (arith, c.write_decimal-p.ensures.next, decimal-length c.args.x);
}
