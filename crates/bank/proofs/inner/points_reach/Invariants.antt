-- `bank::inner::points_reach` meets its contract: the words of the points passed are below 2 ^ w. Assumes nothing.
use mathlib.Core.Path.{◌≡◌}
use Prim.Native.Nat.{◌^◌}
use lib.ListN.{drop}
use Rattle.bank.specs.Build.{points_reach}
use Rattle.bank.proofs.inner.points_reach.Given as goal

abbrev pub invariant-loop-p : goal.invariant-loop-p
invariant-loop-p l = points_reach (2 ^ l.w) l.nv (drop l.p-index l.p-items) ≡ points_reach (2 ^ l.w) l.nv l.p-items
