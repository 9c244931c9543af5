-- A search as it is handed over, in one struct, and what the stages' contracts say of it. Assumes nothing.
use Rattle.std.specs.Prelude.{Bool, List, ℕ, ◌*◌, ◌≤◌, length, get_or}
use Rattle.index_order.specs.Order.{first_word}
use Rattle.search_product_forms.specs.Lent.{forms_of}
use Rattle.search_product_forms.specs.Written.{Written}
use Rattle.search_product_trial.specs.declared.inner.Best.{Best}
use Rattle.search_product_trial.specs.declared.inner.Search.{Search}
use Rattle.search_product_trial.specs.Trying.{Product, fitting, slots_for, with_pairs}
use Rattle.search_product_trial.specs.Stages.{Lent, Tried}
use Rattle.search_product_trial.specs.Steps.{Target}

-- no refusal turns it back
abbrev pub IsLent : Search → Type 0
IsLent s = Lent s.w s.forms.count s.atoms.now s.forms.n s.listed.now s.order.now s.target.now (forms_of s.forms)

-- .. for its atoms and its target, which are all that the first stage reads
pub record AtomsLent (s : Search) : Type 0 where
  pub fit : 16 * s.forms.count ≤ length s.atoms.now
  pub target : Target s.w s.target.now
  pub written : Written s.forms.count (forms_of s.forms)

-- whether a trial fits
abbrev pub fits_in : Search → Product → Bool
fits_in s = fitting s.w s.atoms.now s.listed.now s.target.now

-- from what was kept to what is kept after these trials
abbrev pub TriedIn : Search → List Product → Best → Best → Type 0
TriedIn s = Tried (forms_of s.forms) (fits_in s)

-- the listed pairs' slots in the order in which they are tried with atom a
abbrev pub slots_tried : Search → ℕ → List ℕ
slots_tried s a = slots_for s.w (first_word s.atoms.now a) (get_or s.target.now 0 0) s.forms.n s.listed.now

-- the trials of the second stage
abbrev pub pair_trials : Search → List Product
pair_trials s = with_pairs s.w s.forms.count s.atoms.now s.forms.n s.listed.now s.target.now
