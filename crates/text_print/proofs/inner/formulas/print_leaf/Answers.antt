-- `text_print::inner::formulas::print_leaf` meets its contract: a byte, and the digits after it. Assumes nothing.
use native.Mathlib.Omega.{arith}
use lib.ListN.{length-set}
use Rattle.text_print.proofs.Decimals.{decimal-length, one, then, wrote-length}
use Rattle.text_print.proofs.inner.formulas.print_leaf.Goals as goal

pub write_decimal-requires : goal.write_decimal-requires
write_decimal-requires c = simp length-set (omega arith)

pub shape_of-out : goal.shape_of-out
shape_of-out c = let a = c.args in wrote-length {l = a.out.now} (then (one a.letter) c.write_decimal.ensures)

pub returns : goal.returns
returns c = record {
  wrote = then (one _) c.write_decimal.ensures;
  upper_bound = omega (arith, c.write_decimal.ensures.next, decimal-length c.args.x);
}
