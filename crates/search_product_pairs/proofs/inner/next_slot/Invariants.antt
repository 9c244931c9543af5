-- `search_product_pairs::inner::next_slot` meets its contract: nothing fits up to slot s. Where the second products differ none fits. Assumes nothing.
use mathlib.Core.Path.{◌≡◌}
use mathlib.Core.Bool.{false}
use Prim.Native.Nat.{ℕ, ◌≤◌, ◌<◌}
use Rattle.search_product_trial.specs.Steps.{fits_at}
use Rattle.search_product_pairs.proofs.inner.next_slot.Given as goal

abbrev pub invariant-loop-s : goal.invariant-loop-s
invariant-loop-s l = (k : ℕ) → l.from ≤ k → k < l.s → fits_at l.w l.target l.atoms l.a l.listed k ≡ false
