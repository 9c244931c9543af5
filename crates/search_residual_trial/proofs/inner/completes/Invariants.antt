-- `search_residual_trial::inner::completes` meets its contract: the words passed are those of the row that completes the atom. Assumes nothing.
use mathlib.Core.Path.{◌≡◌}
use Prim.Native.Nat.{ℕ, ◌+◌, ◌*◌, ◌<◌}
use lib.ListN.{get_or}
use Rattle.search_residual_trial.proofs.Trials.{lane}
use Rattle.search_residual_trial.proofs.inner.completes.Given as goal

abbrev pub invariant-loop-j : goal.invariant-loop-j
invariant-loop-j l = (k : ℕ) → k < l.j → get_or l.rows (16 * l.slot + k) 0 ≡ lane l.g l.w l.search.target l.atoms l.a k
