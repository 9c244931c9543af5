-- `listing::inner::points_of` meets its contract: the points stored are the first of all. Assumes nothing.
use native.Mathlib.Omega.{arith}
use borrow.Author.Rules.{rules}
use Rattle.listing.proofs.Numbers.{none_stored, base_more, points-more, points-are}
use Rattle.listing.proofs.inner.points_of.Goals as goal

pub loop-k-init : goal.loop-k-init
loop-k-init c = (search rules, (omega arith, (omega arith, none_stored _)))

pub loop-k-preserved : goal.loop-k-preserved
loop-k-preserved c =
    let a = c.args in (
      search rules,
      (
        omega arith,
        (
          base_more a.nv c.loop-k.base c.loop-k.k c.loop-k.invariant.1.1.0,
          points-more a.numbers a.nv c.loop-k.base c.loop-k.k c.loop-k.points _ (search rules) c.requires.0 c.loop-k.invariant.1.1.0 c.point_of-p.ensures c.loop-k.invariant.1.1.1,
        ),
      ),
    )

pub returns : goal.returns
returns c =
    let a = c.args in
    points-are a.numbers c.loop-k.points c.loop-k.k (search rules) c.loop-k.invariant.0 c.loop-k.invariant.1.1.1
