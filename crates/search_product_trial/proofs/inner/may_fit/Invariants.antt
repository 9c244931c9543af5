-- `search_product_trial::inner::may_fit` meets its contract: a word whose equation has no solution is found, or each word passed has one. Assumes nothing.
use mathlib.Core.Path.{◌≡◌}
use mathlib.Core.Bool.{true}
use Prim.Native.Nat.{ℕ, ◌+◌, ◌*◌, ◌%◌, ◌^◌, ◌<◌}
use lib.ListN.{get_or}
use Rattle.search_equation.specs.Equation.{solvable}
use Rattle.search_product_trial.proofs.inner.may_fit.Given as goal

abbrev pub invariant-loop-k : goal.invariant-loop-k
invariant-loop-k l = (j : ℕ) → j < l.k → solvable (get_or l.xs (16 * l.a + j) 0 % 2 ^ l.w) (get_or l.target j 0) ≡ true
