-- `search_product_forms::inner::LentForms::bad_atom` meets its contract: the parts that are lent are the atom's tokens. Assumes nothing.
use mathlib.Core.Path.{sym, ap, ◌∙◌}
use mathlib.Core.Bool.{not}
use mathlib.Core.List.{List}
use borrow.Author.Tests.{le-ltb}
use Rattle.limits.proofs.Refusals.{or_later}
use Rattle.expr.specs.declared.Token.{Token}
use Rattle.expr.specs.Formula.{is_formula}
use Rattle.search_product_forms.specs.Lent.{forms_of}
use Rattle.search_product_forms.proofs.Forming.{form-is}
use Rattle.search_product_forms.proofs.inner.LentForms.bad_atom.Goals as goal

pub returns : goal.returns
returns c =
    let a = c.args in
    sym (or_later (le-ltb _ _ c.if-length-gt-ATOM_TOKENS.false) (ap (λ (ts : List Token). not (is_formula 6 ts)) (sym (form-is (forms_of a.self.now) a.k)) ∙ ap not (sym c.is_formula.ensures)))
