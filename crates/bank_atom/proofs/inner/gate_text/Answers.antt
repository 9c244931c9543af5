-- `bank_atom::inner::gate_text` meets its contract: both texts, and the gate's token after them. Assumes nothing.
use Rattle.bank_atom.proofs.Making.{gate-text-is}
use Rattle.bank_atom.proofs.inner.gate_text.Goals as goal

pub returns : goal.returns
returns c = let s = c.args in gate-text-is s.g s.a s.b _ _ _ c.gate_opcode.ensures c.joined-both.ensures c.with_token.ensures
