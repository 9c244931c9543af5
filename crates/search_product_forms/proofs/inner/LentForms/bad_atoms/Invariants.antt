-- `search_product_forms::inner::LentForms::bad_atoms` meets its contract: from atom k on the first that is bad is the first of all. Assumes nothing.
use mathlib.Core.Path.{◌≡◌}
use Prim.Native.Nat.{◌-◌}
use Rattle.arrays.specs.Lists.{count_up, first_that}
use Rattle.search_product_forms.specs.Refusals.{bad_atom}
use Rattle.search_product_forms.specs.Lent.{forms_of}
use Rattle.search_product_forms.proofs.inner.LentForms.bad_atoms.Given as goal

abbrev pub invariant-loop-k : goal.invariant-loop-k
invariant-loop-k l =
    first_that (bad_atom (forms_of l.self)) (count_up l.k (l.self.count - l.k)) ≡ first_that (bad_atom (forms_of l.self)) (count_up 0 l.self.count)
