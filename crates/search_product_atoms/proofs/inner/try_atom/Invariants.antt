-- `search_product_atoms::inner::try_atom` meets its contract: the trials up to atom b are done, and b fits if it is one; or all are too dear, or none fits. Assumes nothing.
use mathlib.Core.Path.{◌≡◌}
use mathlib.Core.Bool.{true}
use mathlib.Core.List.{List}
use Prim.Native.Nat.{ℕ, ◌-◌, ◌≤◌, ◌<◌}
use Rattle.search_product_forms.specs.Lent.{forms_with}
use Rattle.search_product_trial.specs.Trying.{Product, fitting}
use Rattle.search_product_trial.specs.Steps.{fits_at}
use Rattle.search_product_trial.proofs.Keeping.{TriedTo}
use Rattle.search_product_atoms.proofs.inner.try_atom.Given as goal

abbrev pub invariant-loop-b : goal.invariant-loop-b
invariant-loop-b l =
    (l.a ≤ l.b)
    × (l.b ≤ l.search.forms.count)
    × (l.b < l.search.forms.count → fits_at l.search.w l.search.target.now l.search.atoms.now l.a l.search.atoms.now l.b ≡ true)
    × ((listed pairs : List ℕ) → TriedTo (forms_with l.search.forms pairs) (fitting l.search.w l.search.atoms.now listed l.search.target.now) (Product.of_atoms l.a) l.a l.b l.initial.kept l.kept)

abbrev pub decreases-loop-b : goal.decreases-loop-b
decreases-loop-b l = l.search.forms.count - l.b
