-- `search_product_atoms::inner::search_atoms` meets its contract: the least of the trials of all atoms before a is kept; those before an atom were tried with it. Assumes nothing.
use mathlib.Core.List.{List}
use Prim.Native.Nat.{ℕ}
use Rattle.arrays.specs.Least.{least_that}
use Rattle.search_product_forms.specs.Lent.{forms_with}
use Rattle.search_product_trial.specs.Trying.{Product, fitting, cheaper}
use Rattle.search_product_trial.specs.Stages.{Keeps}
use Rattle.search_product_trial.proofs.Rounds.{rounds, every_atom}
use Rattle.search_product_atoms.proofs.inner.search_atoms.Given as goal

abbrev pub invariant-loop-a : goal.invariant-loop-a
invariant-loop-a l =
    (listed pairs : List ℕ) → Keeps (forms_with l.search.forms pairs) (least_that (fitting l.search.w l.search.atoms.now listed l.search.target.now) (cheaper (forms_with l.search.forms pairs)) (rounds Product.of_atoms (every_atom l.search.forms.count) l.a)) l.best
