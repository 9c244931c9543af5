-- `search_product_forms::inner::LentForms::atom_info` meets its contract: the parts that are lent are the atom's tokens, a formula that begins at their first. Assumes nothing.
use mathlib.Core.Path.{ap, ◌∙◌}
use lib.ListN.{get_or}
use Rattle.expr.specs.Formula.{is_formula}
use Rattle.expr_cost.specs.declared.inner.SpanCost.{SpanCost}
use Rattle.expr_cost.specs.Cost.{info_of}
use Rattle.expr_cost.proofs.Spans.{whole-ends, whole_info}
use Rattle.search_product_forms.specs.Lent.{forms_of}
use Rattle.search_product_forms.proofs.Forming.{form-is}
use Rattle.search_product_forms.proofs.inner.LentForms.atom_info.Goals as goal

pub cost_before-whole-requires : goal.cost_before-whole-requires
cost_before-whole-requires c =
    let a = c.args in
    let f = forms_of a.self.now in
    whole-ends 6 (get_or a.self.now.lengths.now a.k 0) _ _ (ap (is_formula 6) (form-is f a.k) ∙ c.requires.0.formula a.k c.requires.1)

pub returns : goal.returns
returns c =
    let a = c.args in
    let f = forms_of a.self.now in
    ap (λ (x : SpanCost). x.info) c.cost_before-whole.ensures
    ∙ whole_info 6 (get_or a.self.now.lengths.now a.k 0) _ _ (ap (is_formula 6) (form-is f a.k) ∙ c.requires.0.formula a.k c.requires.1)
    ∙ ap info_of (form-is f a.k)
