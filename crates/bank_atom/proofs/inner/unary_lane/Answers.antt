-- `bank_atom::inner::unary_lane` meets its contract, by the token. Assumes nothing.
use Rattle.bank_atom.proofs.Making.{neg-lane, not-lane}
use Rattle.bank_atom.proofs.inner.unary_lane.Goals as goal

pub returns-in-Neg : goal.returns-in-Neg
returns-in-Neg c =
    neg-lane c.args.u c.args.w c.args.v _ c.requires c.in-Neg.is c.mod_neg.ensures

pub returns-in-Not : goal.returns-in-Not
returns-in-Not c =
    not-lane c.args.u c.args.w c.args.v _ c.requires c.in-Not.is c.mod_not.ensures
