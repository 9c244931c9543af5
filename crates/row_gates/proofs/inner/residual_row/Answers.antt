-- `row_gates::inner::residual_row` meets its contract: the places passed hold what `residual_of` gives there. Assumes nothing.
use borrow.Author.Rules.{rules}
use Rattle.arrays.proofs.Fill.{zipped}
use Rattle.row_gates.specs.Gates.{residual_of, residual_row}
use Rattle.row_gates.proofs.inner.residual_row.Goals as goal

pub returns : goal.returns
unfolding residual_row
returns c =
    zipped (residual_of c.args.g c.args.w) c.args.target c.args.a c.loop-i.row c.loop-i.i (search rules) (search rules) (search rules) c.loop-i.invariant.1
