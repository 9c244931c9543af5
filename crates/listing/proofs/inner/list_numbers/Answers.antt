-- `listing::inner::list_numbers` meets its contract: count, width, limit, points and target are those of the numbers. Assumes nothing.
use Rattle.listing.proofs.Building.{text-is}
use Rattle.listing.proofs.inner.list_numbers.Goals as goal

pub returns : goal.returns
returns c = record {
  wrote = text-is c.args.numbers _ _ c.points_of-points.ensures c.target_of-target.ensures c.list_bank.ensures.wrote;
  upper_bound = c.list_bank.ensures.upper_bound;
}
