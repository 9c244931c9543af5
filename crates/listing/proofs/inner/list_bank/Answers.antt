-- `listing::inner::list_bank` meets its contract: what the build leaves is the bank that is listed. Assumes nothing.
use native.Mathlib.Omega.{arith}
use Rattle.bank_unary.proofs.Phasing.{holding}
use Rattle.listing.specs.Steps.{atoms_for}
use Rattle.listing.proofs.inner.list_bank.Goals as goal

pub list_built-requires : goal.list_built-requires
list_built-requires c = record {
  demand = c.requires;
  holding = holding _ _ _ _ (atoms_for c.args.demand) c.build-n.ensures.phase;
  area = omega (arith, c.build-n.auto.work);
}
