-- `bank_parts::inner::load_entry` meets its contract: the five parts of a slot are those of the atom there. Assumes nothing.
use Rattle.bank_parts.specs.Lent.{arrays_of}
use Rattle.bank_parts.proofs.Storing.{loaded}
use Rattle.bank_parts.proofs.inner.load_entry.Goals as goal

pub returns : goal.returns
returns c =
    let s = c.args in
    loaded (arrays_of s.bank.now) s.slot.0 _ _ _ _
    c.load_ops-six_ops.ensures c.load_operands-six_operands.ensures c.load_cost-cost.ensures c.load_row-row.ensures
