-- `search_product_pairs::inner::search_pairs` meets its contract: the trials of all atoms before a are done. Assumes nothing.
use mathlib.Core.Path.{◌≡◌, ap, ◌∙◌, subst}
use mathlib.Core.List.{List}
use Rattle.search_product_forms.specs.Lent.{forms_of}
use Rattle.search_product_trial.specs.Trying.{Product}
use Rattle.search_product_trial.specs.Searches.{fits_in}
use Rattle.search_product_trial.specs.Stages.{Tried}
use Rattle.search_product_trial.proofs.Rounds.{rounds, pair_slots, tried-none, tried-turn, pairs-all}
use native.Mathlib.Omega.{arith}
use Rattle.search_product_pairs.proofs.inner.search_pairs.Goals as goal

pub loop-a-init : goal.loop-a-init
loop-a-init c =
    let a = c.args in
    tried-none Product.of_pair (pair_slots a.search.now.w a.search.now.forms.count a.search.now.atoms.now a.search.now.forms.n a.search.now.listed.now a.search.now.target.now) (forms_of a.search.now.forms) (fits_in a.search.now) a.best

pub loop-a-preserved : goal.loop-a-preserved
loop-a-preserved c =
    let l = c.loop-a in
    let a = c.args in
    tried-turn Product.of_pair (pair_slots a.search.now.w a.search.now.forms.count a.search.now.atoms.now a.search.now.forms.n a.search.now.listed.now a.search.now.target.now) (forms_of a.search.now.forms) (fits_in a.search.now) l.a a.best l.kept c.try_pairs-kept.result l.invariant c.try_pairs-kept.ensures

pub returns : goal.returns
returns c =
    let l = c.loop-a in
    let a = c.args in
    let e : l.a ≡ a.search.now.forms.count = omega (arith, c.loop-a-test.false) in
    subst (λ (q : List Product). Tried (forms_of a.search.now.forms) (fits_in a.search.now) q a.best l.kept)
    (ap (rounds Product.of_pair (pair_slots a.search.now.w a.search.now.forms.count a.search.now.atoms.now a.search.now.forms.n a.search.now.listed.now a.search.now.target.now)) e ∙ pairs-all a.search.now.w a.search.now.forms.count a.search.now.atoms.now a.search.now.forms.n a.search.now.listed.now a.search.now.target.now) l.invariant
