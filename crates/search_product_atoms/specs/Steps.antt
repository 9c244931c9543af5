-- What the contracts of src/inner.rt cite; no caller needs but what is kept. Assumes nothing.
use Rattle.std.specs.Prelude.{◌≡◌, List, map, ℕ, ◌-◌, ◌≤◌, ◌<◌, length, get_or}
use Rattle.arrays.specs.Lists.{count_up}
use Rattle.arrays.specs.Least.{least_that}
use Rattle.index_order.specs.Order.{first_word}
use Rattle.search_product_forms.specs.Lent.{forms_with}
use Rattle.search_product_trial.specs.declared.inner.Best.{Best}
use Rattle.search_product_trial.specs.declared.inner.Search.{Search}
use Rattle.search_product_trial.specs.Trying.{Product, fitting, with_atoms, cheaper}
use Rattle.search_product_trial.specs.Stages.{Keeps, Tried}

-- number k of `firsts` is the first word of row k
pub record FirstWords (rows : List ℕ) (count : ℕ) (firsts : List ℕ) : Type 0 where
  pub fit : count ≤ length firsts
  pub is : (k : ℕ) → k < count → get_or firsts k 0 ≡ first_word rows k

-- atom a was tried with every atom from a on, whatever pairs are listed
abbrev pub TriedAtom : Search → ℕ → Best → Best → Type 0
TriedAtom s a best r =
    (listed pairs : List ℕ) → Tried (forms_with s.forms pairs) (fitting s.w s.atoms.now listed s.target.now) (map (Product.of_atoms a) (count_up a (s.forms.count - a))) best r

-- the least product of two atoms is kept, whatever pairs are listed
abbrev pub KeepsAtoms : Search → Best → Type 0
KeepsAtoms s r =
    (listed pairs : List ℕ) → Keeps (forms_with s.forms pairs) (least_that (fitting s.w s.atoms.now listed s.target.now) (cheaper (forms_with s.forms pairs)) (with_atoms s.forms.count)) r
