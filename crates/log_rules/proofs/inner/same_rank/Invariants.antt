-- `log_rules::inner::same_rank` meets its contract: no earlier place so far has the rank. Assumes nothing.
use mathlib.Core.Path.{◌≡◌}
use mathlib.Core.Bool.{false}
use Prim.Native.Nat.{ℕ, ◌<◌}
use lib.Dec.{eqb}
use lib.ListN.{get_or}
use Rattle.log_rules.proofs.inner.same_rank.Given as goal

abbrev pub invariant-loop-j : goal.invariant-loop-j
invariant-loop-j l = (l.rank ≡ get_or l.ranks l.i 0) × ((t : ℕ) → t < l.j → eqb (get_or l.ranks t 0) (get_or l.ranks l.i 0) ≡ false)
