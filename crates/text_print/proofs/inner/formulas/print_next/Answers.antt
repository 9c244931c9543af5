-- `text_print::inner::formulas::print_next` meets its contract: a blank, unless no token stands before. Assumes nothing.
use native.Mathlib.Omega.{arith}
use lib.ListN.{length-set}
use Rattle.text_print.proofs.Decimals.{one, then, reads, wrote-length}
use Rattle.text_print.proofs.Listings.{next-later}
use Rattle.text_print.specs.Printing.{next_text}
use Rattle.text_print.proofs.inner.formulas.print_next.Goals as goal

pub returns-then-i-eq0 : goal.returns-then-i-eq0
unfolding next_text
returns-then-i-eq0 c = record {
  wrote = rw c.if-i-eq0.true c.print_token.ensures.wrote;
  upper_bound = omega (arith, c.print_token.ensures.upper_bound);
}

pub print_token-requires-2 : goal.print_token-requires-2
print_token-requires-2 c = simp length-set (omega arith)

pub shape_of-out : goal.shape_of-out
shape_of-out c = wrote-length {l = c.args.out.now} (then (one 32) c.print_token-2.ensures.wrote)

pub returns : goal.returns
returns c = record {
  wrote = reads (next-later c.args.i c.args.t c.if-i-eq0.false) (then (one _) c.print_token-2.ensures.wrote);
  upper_bound = omega (arith, c.print_token-2.ensures.upper_bound);
}
