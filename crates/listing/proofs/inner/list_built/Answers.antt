-- `listing::inner::list_built` meets its contract: the index is built of the bank's rows, and what is printed is what the arrays hold. Assumes nothing.
use native.Mathlib.Omega.{arith}
use borrow.Author.Rules.{rules}
use Rattle.bank_parts.specs.Lent.{arrays_of}
use Rattle.listing.proofs.Building.{demand-fits, demand-built}
use Rattle.listing.proofs.inner.list_built.Goals as goal

pub build-made-requires : goal.build-made-requires
build-made-requires c =
    let a = c.args in
    demand-fits a.demand (arrays_of a.bank.now) a.work.now a.n c.requires.demand.0 c.requires.holding _ _ _ c.requires.area (search rules) (search rules) (search rules)

pub print_listing-requires : goal.print_listing-requires
print_listing-requires c =
    let a = c.args in
    let both = demand-built a.demand (arrays_of a.bank.now) a.work.now a.n c.requires.demand.0 c.requires.holding _ _ _ _ _ _ _ (omega (arith, c.build-made.auto.pairs)) c.build-made.ensures in
    (both.shown, c.requires.demand.1)

pub returns : goal.returns
returns c =
    let a = c.args in
    let both = demand-built a.demand (arrays_of a.bank.now) a.work.now a.n c.requires.demand.0 c.requires.holding _ _ _ _ _ _ _ (omega (arith, c.build-made.auto.pairs)) c.build-made.ensures in
    record {
      wrote = c.print_listing.ensures.is _ _ both.holding;
      upper_bound = c.print_listing.ensures.fits;
    }
