-- `search_product_trial::inner::offer_pair` meets its contract: a formula of more tokens than the best has size is dearer, and else the costs are compared. Assumes nothing.
use mathlib.Core.Path.{refl, sym, ap₂, ◌∙◌, subst}
use Prim.Native.Nat.{◌+◌}
use lib.ListN.{get_or}
use borrow.Author.Tests.{leb-false}
use Rattle.row_gates.specs.declared.Gate.TheVariants.{Mul}
use Rattle.expr_cost.specs.declared.CostInfo.{CostInfo}
use Rattle.expr_cost.specs.Cost.{info_gate, Roomy}
use Rattle.search_product_forms.specs.Lent.{forms_of}
use Rattle.search_product_forms.proofs.Forming.{atom_roomy, pair_roomy, pair-length}
use Rattle.search_product_trial.specs.Trying.{Product}
use Rattle.search_product_trial.proofs.Keeping.{pair-sized, pair-product-cost, sized_roomy, offered_dear, offered_or}
use native.Mathlib.Omega.{arith}
use Rattle.search_product_trial.proofs.inner.offer_pair.Goals as goal

pub returns-then-not-may_beat : goal.returns-then-not-may_beat
returns-then-not-may_beat c =
    let a = c.args in
    let f = forms_of a.forms.now in
    let w = c.requires.0 in
    let p = c.requires.1 in
    let long = c.pair_tokens-inner.ensures ∙ sym (pair-length w p a.s c.requires.4) in
    offered_dear f (Product.of_pair a.a a.s) _ a.best (pair-sized w a.a c.requires.3 p a.s c.requires.4)
    (omega (arith, long, leb-false (get_or a.forms.now.lengths.now a.a 0 + c.pair_tokens-inner.result + 1) a.best.cost.size (sym c.may_beat.ensures ∙ c.if-not-may_beat.true)))

pub or_product-requires : goal.or_product-requires
or_product-requires c =
    let a = c.args in
    let w = c.requires.0 in (
      subst (λ (x : CostInfo). Roomy x.cost) (sym c.atom_info-left.ensures) (atom_roomy w _ c.requires.3),
      subst (λ (x : CostInfo). Roomy x.cost) (sym c.pair_info-right.ensures) (pair_roomy c.requires.0 c.requires.1 a.s c.requires.4),
    )

pub returns : goal.returns
returns c =
    let a = c.args in
    let f = forms_of a.forms.now in
    let w = c.requires.0 in
    let p = c.requires.1 in
    let sized = pair-sized w a.a c.requires.3 p a.s c.requires.4 in
    let cost = ap₂ (λ (x y : CostInfo). (info_gate Mul x y).cost) c.atom_info-left.ensures c.pair_info-right.ensures in
    offered_or f (Product.of_pair a.a a.s) _ _ a.best c.or_product.result refl (cost ∙ sym (pair-product-cost w a.a c.requires.3 p a.s c.requires.4))
    (sized_roomy f _ _ sized) c.or_product.ensures
