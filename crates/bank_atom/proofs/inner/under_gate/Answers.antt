-- `bank_atom::inner::under_gate` meets its contract: text, cost and row are each those of the gate. Assumes nothing.
use Rattle.bank_atom.proofs.Making.{under_gate-is}
use Rattle.bank_atom.proofs.inner.under_gate.Goals as goal

pub returns : goal.returns
returns c =
    let s = c.args in
    under_gate-is s.w s.g s.left s.right s.a s.b _ c.gate_text-text.ensures c.gate_cost-cost.ensures c.gate_row-row.ensures
