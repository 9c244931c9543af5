-- `search_product_pairs::inner::try_slots` meets its contract: the trials up to slot s are done, and s fits if it is one. Assumes nothing.
use mathlib.Core.Path.{◌≡◌}
use mathlib.Core.Bool.{true}
use Prim.Native.Nat.{◌-◌, ◌≤◌, ◌<◌}
use Rattle.search_product_forms.specs.Lent.{forms_of}
use Rattle.search_product_trial.specs.Trying.{Product}
use Rattle.search_product_trial.specs.Searches.{fits_in}
use Rattle.search_product_trial.specs.Steps.{fits_at}
use Rattle.search_product_trial.proofs.Keeping.{TriedTo}
use Rattle.search_product_pairs.proofs.inner.try_slots.Given as goal

abbrev pub invariant-loop-s : goal.invariant-loop-s
invariant-loop-s l =
    (l.s ≤ l.search.forms.n)
    × (l.s < l.search.forms.n → fits_at l.search.w l.search.target.now l.search.atoms.now l.a l.search.listed.now l.s ≡ true)
    × TriedTo (forms_of l.search.forms) (fits_in l.search) (Product.of_pair l.a) 0 l.s l.initial.kept l.kept

abbrev pub decreases-loop-s : goal.decreases-loop-s
decreases-loop-s l = l.search.forms.n - l.s
