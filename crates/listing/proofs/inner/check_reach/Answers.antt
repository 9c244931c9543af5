-- `listing::inner::check_reach` meets its contract: count, width and sizes pass the bank build's tests. Assumes nothing.
use mathlib.Core.Path.{◌∙◌}
use Rattle.listing.proofs.Refusing.{reach-is}
use Rattle.listing.proofs.inner.check_reach.Goals as goal

pub returns : goal.returns
returns c =
    c.check.ensures ∙ reach-is c.args.numbers _ _ c.requires c.points_of-points.ensures c.target_of-target.ensures
