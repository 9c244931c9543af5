-- `bank_parts::inner::load_operands` meets its contract: the part that is copied is the slot's. Assumes nothing.
use mathlib.Core.Path.{◌∙◌}
use Rattle.arrays.proofs.Parts.{part_is}
use Rattle.bank_parts.proofs.inner.load_operands.Goals as goal

pub returns : goal.returns
returns c =
    let s = c.args in
    c.copy_from_slice.ensures.after ∙ part_is 6 s.operands.now s.slot.0
