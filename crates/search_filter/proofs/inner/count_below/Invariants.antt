-- `search_filter::inner::count_below` meets its contract: the samples before `from` are below the key, those from `to` on are not. Assumes nothing.
use Prim.Native.Nat.{ℕ, ◌-◌}
use lib.ListN.{length, get_or}
use Rattle.search_filter.proofs.Halving.{Seek}
use Rattle.search_filter.proofs.inner.count_below.Given as goal

abbrev pub invariant-loop-from : goal.invariant-loop-from
invariant-loop-from l = Seek (λ (j : ℕ). get_or l.samples j 0) (length l.samples) 0 l.key l.from l.to

abbrev pub decreases-loop-from : goal.decreases-loop-from
decreases-loop-from l = l.to - l.from
