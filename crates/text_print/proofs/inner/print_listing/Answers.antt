-- `text_print::inner::print_listing` meets its contract: head, atoms and pairs, which is the listing of what the arrays hold. Assumes nothing.
use native.Mathlib.Omega.{arith}
use Rattle.text_print.proofs.Decimals.{then, reads}
use Rattle.text_print.proofs.Listings.{listing-is}
use Rattle.text_print.proofs.inner.print_listing.Goals as goal

pub returns : goal.returns
returns c =
    let a = c.args.atoms.now in
    let p = c.args.pairs.now in
    record {
      fits = omega (arith, c.requires.0.few, c.requires.0.some, c.print_head-head.ensures.upper_bound, c.print_atoms-after.ensures.upper_bound, c.print_lines.ensures.upper_bound);
      is = λ bank index h.
          reads (listing-is a.lengths.now a.ops.now a.operands.now a.costs.now a.n p.numbers.now p.m p.cut bank index c.requires.0.short h)
          (then c.print_head-head.ensures.wrote (then c.print_atoms-after.ensures.wrote c.print_lines.ensures.wrote));
    }
