-- `simjaldek_abi::inner::slices::points_of` meets its contract: the points loaded and those still to come are the sixteen. Assumes nothing.
use mathlib.Core.Path.{◌≡◌}
use mathlib.Core.List.{◌++◌}
use Prim.Native.Nat.{◌-◌}
use lib.ListN.{length, take}
use Rattle.simjaldek_abi.specs.Slices.{points_from, points_in}
use Rattle.simjaldek_abi.proofs.inner.slices.points_of.Given as goal

abbrev pub invariant-loop-k : goal.invariant-loop-k
invariant-loop-k l = (length l.points ≡ 16) × (take l.k l.points ++ points_from l.words l.k (16 - l.k) ≡ points_in l.words)
