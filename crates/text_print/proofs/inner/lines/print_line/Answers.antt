-- `text_print::inner::lines::print_line` meets its contract: three fields, one after the other. Assumes nothing.
use Prim.Native.Nat.{◌+◌, ◌*◌}
use native.Mathlib.Omega.{arith}
use Rattle.text_print.proofs.Decimals.{then, reads}
use Rattle.text_print.proofs.Listings.{numbers_at_lem}
use Rattle.text_print.proofs.inner.lines.print_line.Goals as goal

pub overflow_cast-x : goal.overflow_cast-x
overflow_cast-x c = omega (arith, c.type_inv.numbers (3 * c.args.k))

pub overflow_cast-y : goal.overflow_cast-y
overflow_cast-y c = omega (arith, c.type_inv.numbers (3 * c.args.k + 1))

pub overflow_cast-z : goal.overflow_cast-z
overflow_cast-z c = omega (arith, c.type_inv.numbers (3 * c.args.k + 2))

pub returns : goal.returns
returns c = record {
  wrote = reads (numbers_at_lem c.args.numbers.now c.args.k) (then c.write_field-p.ensures.wrote (then c.write_field-q.ensures.wrote c.write_field.ensures.wrote));
  upper_bound = omega (arith, c.write_field-p.ensures.upper_bound, c.write_field-q.ensures.upper_bound, c.write_field.ensures.upper_bound);
}
