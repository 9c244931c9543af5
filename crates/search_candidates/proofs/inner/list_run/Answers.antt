-- `search_candidates::inner::list_run` meets its contract: the run goes on up to place i, and is copied. Assumes nothing.
use mathlib.Core.Path.{sym, ◌∙◌}
use Rattle.search_candidates.proofs.Runs.{run_more}
use Rattle.search_candidates.proofs.inner.list_run.Goals as goal

pub loop-i-preserved : goal.loop-i-preserved
loop-i-preserved c =
    let l = c.loop-i in
    let a = c.args in (
      run_more a.n a.listed.now a.order.now a.list.now a.at a.k c.requires.0.order-fit c.requires.3 c.requires.1 c.requires.2 l.list l.i l.invariant.0 c.loop-i-test.true (sym c.word_at.ensures ∙ c.if-word_at-word.false ∙ l.invariant.1),
      l.invariant.1,
    )
