-- `search_residual_trial::inner::completes` meets its contract: the words passed are those of the row that completes the atom. Assumes nothing.
use mathlib.Core.Path.{sym, ◌∙◌}
use Rattle.search_residual_trial.proofs.Trials.{completes_not, completes_all}
use native.Mathlib.Omega.{arith}
use Rattle.search_residual_trial.proofs.inner.completes.Goals as goal

pub returns-then-rows-x : goal.returns-then-rows-x
returns-then-rows-x c =
    let l = c.loop-j in
    let a = c.args in
    sym (completes_not a.g a.search.now.w a.search.now.target a.search.now.atoms.now a.a c.requires.2 c.requires.1 a.rows.now a.slot c.requires.0 l.j (omega arith)
    (λ e. c.if-rows-x.true (e ∙ sym c.residual_lane.ensures)))

pub returns : goal.returns
returns c =
    let l = c.loop-j in
    let a = c.args in
    sym (completes_all a.g a.search.now.w a.search.now.target a.search.now.atoms.now a.a c.requires.2 c.requires.1 a.rows.now a.slot c.requires.0 (λ j h. l.invariant j (omega arith)))
