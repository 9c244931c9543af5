-- `search_filter::inner::settle_keys` meets its contract: from `at` on, no word of the class is below the key, and before it none is of the class. Each turn looks up or goes to the next key. Assumes nothing.
use Prim.Native.Nat.{◌+◌, ◌-◌}
use Rattle.search_filter.proofs.Keys.{Going}
use Rattle.search_filter.proofs.inner.settle_keys.Given as goal

abbrev pub invariant-loop-left : goal.invariant-loop-left
invariant-loop-left l = Going l.class l.n l.rows l.order l.initial.at l.at l.key l.left

abbrev pub decreases-loop-left : goal.decreases-loop-left
decreases-loop-left l = l.left + (l.n - l.at)
