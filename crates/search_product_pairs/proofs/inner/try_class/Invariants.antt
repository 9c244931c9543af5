-- `search_product_pairs::inner::try_class` meets its contract: the trials up to the sweep's place are done; places that are passed over are not of the class, or don't fit. Assumes nothing.
use Prim.Native.Nat.{◌-◌}
use Rattle.search_filter.specs.Sweeps.{Sweeping}
use Rattle.search_product_forms.specs.Lent.{forms_of}
use Rattle.search_product_trial.specs.Searches.{fits_in}
use Rattle.search_product_trial.proofs.Keeping.{TriedTo}
use Rattle.search_product_pairs.proofs.Slots.{at_place}
use Rattle.search_product_pairs.proofs.inner.try_class.Given as goal

abbrev pub invariant-loop-place : goal.invariant-loop-place
invariant-loop-place l =
    Sweeping l.class l.search.forms.n l.search.listed.now l.search.order.now l.place
    × TriedTo (forms_of l.search.forms) (fits_in l.search) (at_place l.a l.search.order.now) 0 l.place.at l.initial.kept l.kept

abbrev pub decreases-loop-place : goal.decreases-loop-place
decreases-loop-place l = l.search.forms.n - l.place.at
