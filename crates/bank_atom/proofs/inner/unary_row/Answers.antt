-- `bank_atom::inner::unary_row` meets its contract: the places passed hold what the token gives there. Assumes nothing.
use Rattle.bank_atom.proofs.Making.{unary_row-is}
use borrow.Author.Rules.{rules}
use Rattle.bank_atom.proofs.inner.unary_row.Goals as goal

pub returns : goal.returns
returns c =
    let l = c.loop-k in
    unary_row-is c.args.u c.args.w c.args.row l.out l.k (search rules) (search rules) l.invariant.1
