-- `search_product_trial::inner::fits` meets its contract: the products of the words passed are the target's words. Assumes nothing.
use mathlib.Core.Path.{◌≡◌}
use Prim.Native.Nat.{ℕ, ◌<◌}
use lib.ListN.{get_or}
use Rattle.search_product_trial.proofs.Trials.{lane}
use Rattle.search_product_trial.proofs.inner.fits.Given as goal

abbrev pub invariant-loop-j : goal.invariant-loop-j
invariant-loop-j l = (k : ℕ) → k < l.j → lane l.w l.xs l.a l.ys l.b k ≡ get_or l.target k 0
