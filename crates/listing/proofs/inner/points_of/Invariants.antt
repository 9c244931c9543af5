-- `listing::inner::points_of` meets its contract: the points stored are the first of all. Assumes nothing.
use mathlib.Core.Path.{◌≡◌}
use mathlib.Core.List.{map}
use Prim.Native.Nat.{◌+◌, ◌*◌, ◌≤◌}
use lib.ListN.{length, take}
use Rattle.arrays.specs.Lists.{count_up}
use Rattle.listing.specs.Listing.{point_of}
use Rattle.listing.proofs.inner.points_of.Given as goal

abbrev pub invariant-loop-k : goal.invariant-loop-k
invariant-loop-k l =
    (length l.points ≡ 16) × ((l.base ≤ 3 + 6 * l.k) × ((l.base ≡ 3 + l.nv * l.k) × (take l.k l.points ≡ map (point_of l.numbers) (count_up 0 l.k))))
