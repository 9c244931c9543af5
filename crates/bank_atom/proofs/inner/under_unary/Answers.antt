-- `bank_atom::inner::under_unary` meets its contract: text, cost and row are each those under the token. Assumes nothing.
use Rattle.bank_atom.proofs.Making.{under_unary_is}
use Rattle.bank_atom.proofs.inner.under_unary.Goals as goal

pub returns : goal.returns
returns c =
    let s = c.args in
    under_unary_is s.w _ s.u s.e _ c.from.ensures c.with_token-text.ensures c.under_unary-cost.ensures c.unary_row-row.ensures
