-- `search_product_atoms::inner::search_atoms` meets its contract: the least of the trials of all atoms before a is kept; those before an atom were tried with it. Assumes nothing.
use mathlib.Core.Path.{◌≡◌, ap, ◌∙◌, subst}
use mathlib.Core.List.{List}
use Rattle.arrays.specs.Least.{least_that}
use Rattle.search_product_forms.specs.Lent.{forms_with}
use Rattle.search_product_forms.proofs.Forming.{written_with}
use Rattle.search_product_trial.specs.Trying.{Product, fitting, cheaper}
use Rattle.search_product_trial.specs.Stages.{Keeps}
use Rattle.search_product_trial.proofs.Rounds.{rounds, every_atom, atoms-start, atoms-turn, atoms-all}
use native.Mathlib.Omega.{arith}
use Rattle.search_product_atoms.proofs.inner.search_atoms.Goals as goal

pub loop-a-init : goal.loop-a-init
loop-a-init c =
    let a = c.args in
    λ listed pairs.
    atoms-start (forms_with a.search.now.forms pairs) (fitting a.search.now.w a.search.now.atoms.now listed a.search.now.target.now) a.search.now.forms.count c.nothing-best.result (c.nothing-best.ensures (forms_with a.search.now.forms pairs))

pub loop-a-preserved : goal.loop-a-preserved
loop-a-preserved c =
    let l = c.loop-a in
    let a = c.args in
    λ listed pairs.
    let w = written_with a.search.now.forms pairs c.requires.1.written in
    atoms-turn a.search.now.w a.search.now.forms.count a.search.now.atoms.now listed a.search.now.target.now (forms_with a.search.now.forms pairs) c.requires.1.target c.requires.1.fit w l.a l.best c.try_atom-best.result c.loop-a-test.true (l.invariant listed pairs) (c.try_atom-best.ensures listed pairs)

pub returns : goal.returns
returns c listed pairs =
    let l = c.loop-a in
    let a = c.args in
    let f = forms_with a.search.now.forms pairs in
    let e : l.a ≡ a.search.now.forms.count = omega (arith, c.loop-a-test.false) in
    subst (λ (q : List Product). Keeps f (least_that (fitting a.search.now.w a.search.now.atoms.now listed a.search.now.target.now) (cheaper f) q) l.best)
    (ap (rounds Product.of_atoms (every_atom a.search.now.forms.count)) e ∙ atoms-all a.search.now.forms.count)
    (l.invariant listed pairs)
