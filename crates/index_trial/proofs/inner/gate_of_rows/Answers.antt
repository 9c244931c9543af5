-- `index_trial::inner::gate_of_rows` meets its contract: the places passed hold what `gate_of` gives there. Assumes nothing.
use mathlib.Core.Path.{sym, ap₂, ◌∙◌}
use native.Mathlib.Omega.{arith}
use Rattle.arrays.specs.Parts.{part_at}
use Rattle.arrays.proofs.Parts.{length-part, get_d_part}
use Rattle.arrays.proofs.Fill.{zipped}
use Rattle.row_gates.specs.Gates.{gate_of, gate_row}
use Rattle.index_trial.proofs.inner.gate_of_rows.Goals as goal

pub returns : goal.returns
unfolding gate_row
returns c =
    let a = c.args in
    let lb = length-part 16 a.atoms.now a.t.b.0 c.requires.0 in
    let lc = length-part 16 a.atoms.now a.t.c.0 c.requires.1 in
    zipped (gate_of a.t.gate a.w) (part_at 16 a.atoms.now a.t.b.0) (part_at 16 a.atoms.now a.t.c.0) c.loop-i.row c.loop-i.i (omega arith) (omega arith) (omega arith)
    (λ k h. c.loop-i.invariant.1 k h ∙ sym (ap₂ (gate_of a.t.gate a.w) (get_d_part 16 a.atoms.now a.t.b.0 k (omega arith)) (get_d_part 16 a.atoms.now a.t.c.0 k (omega arith))))
