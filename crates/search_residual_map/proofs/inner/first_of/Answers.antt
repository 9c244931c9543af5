-- `search_residual_map::inner::first_of` meets its contract: the entry and the slot are the first of the rows passed. Assumes nothing.
use Rattle.std.proofs.Common.{arith}
use Rattle.search_residual_map.proofs.Passing.{best_better, best_kept, best_first}
use Rattle.search_residual_map.proofs.inner.first_of.Goals as goal
use Rattle.search_residual_map.proofs.inner.first_of.Goals.{then-at-entry, else-at-entry}

pub returns-then-at-end : goal.returns-then-at-end
returns-then-at-end c =
    let l = c.loop-slot in
    let a = c.args in
    best_first a.search.now.w a.search.now.count a.search.now.atoms.now a.search.now.target a.rows.now a.beaten l.slot a.n l.at l.found (omega arith) (omega (arith, c.if-at-end.true)) l.invariant

pub loop-slot-preserved : goal.loop-slot-preserved
loop-slot-preserved c =
    let l = c.loop-slot in
    let a = c.args in
    let read = c.walk-entry.ensures in
    elim c.if-at-entry.branch [
      | then-at-entry w ↦
          rw (w.at-is, w.found-is) (best_better a.search.now.w a.search.now.count a.search.now.atoms.now a.search.now.target a.rows.now a.beaten l.slot l.at l.found c.walk-entry.result l.invariant read w.if-at-entry.true)
      | else-at-entry w ↦
          rw (w.at-is, w.found-is) (best_kept a.search.now.w a.search.now.count a.search.now.atoms.now a.search.now.target a.rows.now a.beaten l.slot l.at l.found c.walk-entry.result l.invariant read w.if-at-entry.false)
    ]
