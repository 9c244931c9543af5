-- `row_gates::inner::gate_row` meets its contract: the places passed hold what `gate_of` gives there. Assumes nothing.
use borrow.Author.Rules.{rules}
use Rattle.arrays.proofs.Fill.{zipped}
use Rattle.row_gates.specs.Gates.{gate_of, gate_row}
use Rattle.row_gates.proofs.inner.gate_row.Goals as goal

pub returns : goal.returns
unfolding gate_row
returns c =
    zipped (gate_of c.args.g c.args.w) c.args.a c.args.b c.loop-i.row c.loop-i.i (search rules) (search rules) (search rules) c.loop-i.invariant.1
