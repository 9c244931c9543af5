-- `search_product_forms::inner::LentForms::bad_pairs` meets its contract: from pair s on the first that is bad is the first of all. Assumes nothing.
use mathlib.Core.Path.{◌≡◌}
use Prim.Native.Nat.{◌-◌}
use Rattle.arrays.specs.Lists.{count_up, first_that}
use Rattle.search_product_forms.specs.Refusals.{bad_pair}
use Rattle.search_product_forms.specs.Lent.{forms_of}
use Rattle.search_product_forms.proofs.inner.LentForms.bad_pairs.Given as goal

abbrev pub invariant-loop-s : goal.invariant-loop-s
invariant-loop-s l =
    first_that (bad_pair l.self.count (forms_of l.self)) (count_up l.s (l.self.n - l.s)) ≡ first_that (bad_pair l.self.count (forms_of l.self)) (count_up 0 l.self.n)
