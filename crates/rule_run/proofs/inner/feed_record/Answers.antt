-- `rule_run::inner::feed_record` meets its contract: it feeds one record over an array of one place. Assumes nothing.
use Rattle.std.proofs.Common.{[], ◌∷◌, sym, refl, ap}
use Rattle.rule_run.specs.Steps.{record_answer}
use Rattle.rule_run.proofs.Feeding.{fed_start, ran-answered}
use Rattle.rule_run.proofs.inner.feed_record.Goals as goal

pub returns : goal.returns
returns c =
    let a = c.args in
    λ mark low e.
    let f = c.feed-after.ensures mark a.past (0 ∷ []) e (fed_start mark a.past a.m a.window (0 ∷ []) low c.ranges.past.fits) in
    sym (ap record_answer (ran-answered mark a.m a.window (record { past = a.past }) 1 (0 ∷ []) 0 refl _ _ f))
