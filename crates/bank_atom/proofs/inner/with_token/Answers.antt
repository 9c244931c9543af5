-- `bank_atom::inner::with_token` meets its contract: the first free place of both arrays is written. Assumes nothing.
use mathlib.Core.Path.{refl}
use Rattle.bank_atom.proofs.Texts.{longer}
use Rattle.bank_atom.proofs.inner.with_token.Goals as goal

pub returns : goal.returns
returns c =
    let s = c.args in
    longer s.f _ s.opcode c.requires refl refl refl
