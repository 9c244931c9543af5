-- `search_product_pairs::inner::walk_run` meets its contract: nothing fits up to place k. Where the second products differ none fits. Assumes nothing.
use Rattle.search_filter.specs.Places.{Skips}
use Rattle.search_product_trial.specs.Steps.{fits_at}
use Rattle.search_product_pairs.proofs.inner.walk_run.Given as goal

abbrev pub invariant-loop-k : goal.invariant-loop-k
invariant-loop-k l = Skips (fits_at l.w l.target l.atoms l.a l.listed) l.order l.at l.k
