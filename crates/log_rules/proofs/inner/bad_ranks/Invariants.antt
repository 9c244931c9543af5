-- `log_rules::inner::bad_ranks` meets its contract: place after place. Assumes nothing.
use mathlib.Core.Path.{◌≡◌}
use mathlib.Core.Bool.{false, ◌||◌}
use Prim.Native.Nat.{ℕ, ◌<◌}
use lib.ListN.{get_or}
use Rattle.limits.specs.Refusal.{outside_of}
use Rattle.log_rules.specs.Rules.{same_rank}
use Rattle.log_rules.proofs.inner.bad_ranks.Given as goal

abbrev pub invariant-loop-i : goal.invariant-loop-i
invariant-loop-i l = (outside_of 1 8 l.count ≡ false) × ((t : ℕ) → t < l.i → (outside_of 1 8 (get_or l.ranks t 0) || same_rank l.ranks t) ≡ false)
