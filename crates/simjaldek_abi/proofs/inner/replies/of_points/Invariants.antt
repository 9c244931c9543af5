-- `simjaldek_abi::inner::replies::of_points` meets its contract: the points copied and those still to come are the sixteen. Assumes nothing.
use mathlib.Core.Path.{◌≡◌}
use mathlib.Core.List.{◌++◌, map}
use lib.ListN.{length, take, drop}
use Rattle.simjaldek_abi.specs.Reply.{point_words}
use Rattle.simjaldek_abi.proofs.inner.replies.of_points.Given as goal

abbrev pub invariant-loop-k : goal.invariant-loop-k
invariant-loop-k l = (length l.points ≡ 16) × (take l.k l.points ++ map point_words (drop l.k l.made) ≡ map point_words l.made)
