-- `search_product_atoms::inner::next_atom` meets its contract: nothing fits up to atom b. Where the first products differ none fits. Assumes nothing.
use mathlib.Core.Path.{◌≡◌}
use mathlib.Core.Bool.{false}
use Prim.Native.Nat.{ℕ, ◌≤◌, ◌<◌}
use Rattle.search_product_trial.specs.Steps.{fits_at}
use Rattle.search_product_atoms.proofs.inner.next_atom.Given as goal

abbrev pub invariant-loop-b : goal.invariant-loop-b
invariant-loop-b l =
    (k : ℕ) → l.from ≤ k → k < l.b → fits_at l.w l.target l.atoms l.a l.atoms k ≡ false
