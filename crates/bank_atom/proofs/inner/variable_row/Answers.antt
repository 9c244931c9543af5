-- `bank_atom::inner::variable_row` meets its contract: the places passed hold the reduced word of their points. Assumes nothing.
use Rattle.arrays.proofs.Fill.{filled_more}
use Rattle.bank_atom.proofs.Making.{variable-word, variable-row-is}
use borrow.Author.Rules.{rules}
use Rattle.bank_atom.proofs.inner.variable_row.Goals as goal

pub loop-k-preserved : goal.loop-k-preserved
loop-k-preserved c =
    let l = c.loop-k in (
      search rules,
      filled_more _ l.row l.k c.reduce.result (search rules) l.invariant.1
          (variable-word c.args.w c.args.i c.args.points _ l.k c.reduce.result c.requires.0 (search rules) c.reduce.ensures),
    )

pub returns : goal.returns
returns c =
    let l = c.loop-k in
    variable-row-is c.args.w c.args.i c.args.points l.row l.k (search rules) (search rules) l.invariant.1
