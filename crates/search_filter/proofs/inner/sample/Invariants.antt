-- `search_filter::inner::sample` meets its contract: each of the first j samples is the word at its place, a step after the one before. Assumes nothing.
use mathlib.Core.Path.{◌≡◌}
use Prim.Native.Nat.{◌+◌, ◌*◌, ◌<◌}
use lib.ListN.{length}
use Rattle.search_filter.specs.Places.{sample_step, Sampled}
use Rattle.search_filter.proofs.inner.sample.Given as goal

abbrev pub invariant-loop-j : goal.invariant-loop-j
invariant-loop-j l = (length l.samples ≡ length l.initial.samples) × (sample_step * l.j < l.n + sample_step) × Sampled l.n l.rows l.order l.samples l.j
