-- `search_product_pairs::inner::search_pairs` meets its contract: the trials of all atoms before a are done. Assumes nothing.
use Rattle.search_product_forms.specs.Lent.{forms_of}
use Rattle.search_product_trial.specs.Trying.{Product}
use Rattle.search_product_trial.specs.Searches.{fits_in}
use Rattle.search_product_trial.specs.Stages.{Tried}
use Rattle.search_product_trial.proofs.Rounds.{rounds, pair_slots}
use Rattle.search_product_pairs.proofs.inner.search_pairs.Given as goal

abbrev pub invariant-loop-a : goal.invariant-loop-a
invariant-loop-a l =
    Tried (forms_of l.search.forms) (fits_in l.search) (rounds Product.of_pair (pair_slots l.search.w l.search.forms.count l.search.atoms.now l.search.forms.n l.search.listed.now l.search.target.now) l.a) l.initial.kept l.kept
