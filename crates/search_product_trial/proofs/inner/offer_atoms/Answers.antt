-- `search_product_trial::inner::offer_atoms` meets its contract: a formula of more tokens than the best has size is dearer, and else the costs are compared. Assumes nothing.
use mathlib.Core.Path.{refl, sym, ap, ap₂, ◌∙◌, subst}
use borrow.Author.Tests.{leb-false}
use Rattle.row_gates.specs.declared.Gate.TheVariants.{Mul}
use Rattle.expr_cost.specs.declared.CostInfo.{CostInfo}
use Rattle.expr_cost.specs.Cost.{info_of, info_gate, Roomy}
use Rattle.search_product_forms.specs.Lent.{forms_with}
use Rattle.search_product_forms.proofs.Forming.{form_with, written_with, atom_roomy}
use Rattle.search_product_trial.specs.Trying.{Product}
use Rattle.search_product_trial.proofs.Keeping.{atoms-sized, atoms-cost, sized_roomy, offered_dear, offered_or}
use Rattle.search_product_trial.proofs.inner.offer_atoms.Goals as goal

pub returns-then-not-may_beat : goal.returns-then-not-may_beat
returns-then-not-may_beat c pairs =
    let a = c.args in
    let f = forms_with a.forms.now pairs in
    let w = written_with a.forms.now pairs c.requires.0 in
    offered_dear f (Product.of_atoms a.a a.b) _ a.best (atoms-sized w a.a c.requires.1 a.b c.requires.2)
    (leb-false _ _ (sym c.may_beat.ensures ∙ c.if-not-may_beat.true))

pub or_product-requires : goal.or_product-requires
or_product-requires c = (
  subst (λ (x : CostInfo). Roomy x.cost) (sym c.atom_info-left.ensures) (atom_roomy c.requires.0 _ c.requires.1),
  subst (λ (x : CostInfo). Roomy x.cost) (sym c.atom_info-right.ensures) (atom_roomy c.requires.0 _ c.requires.2),
)

pub returns : goal.returns
returns c pairs =
    let a = c.args in
    let f = forms_with a.forms.now pairs in
    let w = written_with a.forms.now pairs c.requires.0 in
    let any = form_with a.forms.now pairs in
    let sized = atoms-sized w a.a c.requires.1 a.b c.requires.2 in
    let cost = ap₂ (λ (x y : CostInfo). (info_gate Mul x y).cost) (c.atom_info-left.ensures ∙ ap info_of (any a.a)) (c.atom_info-right.ensures ∙ ap info_of (any a.b)) in
    offered_or f (Product.of_atoms a.a a.b) _ _ a.best c.or_product.result refl (cost ∙ sym (atoms-cost w a.a c.requires.1 a.b c.requires.2))
    (sized_roomy f _ _ sized) c.or_product.ensures
