-- `search_residual_map::inner::walk` meets its contract: the row is none of the residual rows passed, and links fall, so that the walk ends. Assumes nothing.
use Rattle.std.proofs.Common.{◌-◌, sym, ◌∙◌, arith}
use Rattle.search_residual_map.proofs.Walking.{along_start, along_on}
use Rattle.search_residual_map.proofs.inner.walk.Goals as goal

pub loop-entry-init : goal.loop-entry-init
loop-entry-init c =
    let a = c.args in
    along_start a.search.now.w a.search.now.count a.search.now.atoms.now a.search.now.target a.rows.now a.slot a.work.now c.requires.asked.1.chained a.head c.requires.head_value

pub loop-entry-preserved : goal.loop-entry-preserved
loop-entry-preserved c =
    let l = c.loop-entry in
    let a = c.args in
    along_on a.search.now.w a.search.now.count a.search.now.atoms.now a.search.now.target a.rows.now a.slot a.work.now c.requires.asked.1.chained l.entry (l.entry - 1) (omega arith) (sym c.is_wanted.ensures ∙ c.if-is_wanted.false) l.invariant
