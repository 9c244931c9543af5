-- `search_candidates::inner::list_run` meets its contract: the run goes on up to place i, and is copied. Assumes nothing.
use mathlib.Core.Path.{◌≡◌}
use Rattle.search_filter.specs.Places.{word_at}
use Rattle.search_candidates.proofs.Runs.{RunTo}
use Rattle.search_candidates.proofs.inner.list_run.Given as goal

abbrev pub invariant-loop-i : goal.invariant-loop-i
invariant-loop-i l = RunTo l.n l.listed l.order l.initial.list l.list l.at l.k l.i × (l.word ≡ word_at l.listed l.order l.at)
