-- `row_gates::inner::row_matches` meets its contract: the places passed hold the target's words. Assumes nothing.
use mathlib.Core.Path.{◌≡◌}
use Prim.Native.Nat.{ℕ, ◌<◌}
use lib.ListN.{get_or}
use Rattle.row_gates.specs.Gates.{gate_of}
use Rattle.row_gates.proofs.inner.row_matches.Given as goal

abbrev pub invariant-loop-place : goal.invariant-loop-place
invariant-loop-place l = (k : ℕ) → k < l.place → gate_of l.g l.w (get_or l.a k 0) (get_or l.b k 0) ≡ get_or l.target k 0
