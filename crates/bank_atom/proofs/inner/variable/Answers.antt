-- `bank_atom::inner::variable` meets its contract: one token over its row. Assumes nothing.
use Rattle.bank_atom.proofs.Making.{variable-is}
use Rattle.bank_atom.proofs.inner.variable.Goals as goal

pub returns : goal.returns
returns c = let s = c.args in variable-is s.w s.i s.points _ _ c.variable_row-row.ensures c.leaf.ensures
