-- `search_product_forms::inner::LentForms::pair_info` meets its contract: the cost of two formulas under the pair's gate, from their costs. Assumes nothing.
use mathlib.Core.Path.{sym, ap, ap₂, ◌∙◌, subst}
use Rattle.row_gates.specs.declared.Gate.{Gate}
use Rattle.expr_cost.specs.declared.CostInfo.{CostInfo}
use Rattle.expr_cost.specs.Cost.{info_of, info_gate, Roomy}
use Rattle.search_product_forms.specs.Forms.{atom_form, pair_b, pair_c}
use Rattle.search_product_forms.specs.Lent.{forms_of}
use Rattle.search_product_forms.proofs.Forming.{atom_roomy, pair-cost}
use Rattle.search_product_forms.proofs.inner.LentForms.pair_info.Goals as goal

pub under_gate-requires : goal.under_gate-requires
under_gate-requires c =
    let a = c.args in (
      subst (λ (x : CostInfo). Roomy x.cost) (sym c.atom_info-left.ensures) (atom_roomy c.requires.0 _ (c.requires.1.b-below a.s c.requires.2)),
      subst (λ (x : CostInfo). Roomy x.cost) (sym c.atom_info-right.ensures) (atom_roomy c.requires.0 _ (c.requires.1.c-below a.s c.requires.2)),
    )

pub returns : goal.returns
returns c =
    let a = c.args in
    let f = forms_of a.self.now in
    c.under_gate.ensures
    ∙ ap₂ (info_gate _) c.atom_info-left.ensures c.atom_info-right.ensures
    ∙ ap (λ (g : Gate). info_gate g (info_of (atom_form f (pair_b f a.s))) (info_of (atom_form f (pair_c f a.s)))) c.gate_at-g.ensures
    ∙ sym (pair-cost c.requires.0 c.requires.1 a.s c.requires.2)
