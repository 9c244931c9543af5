-- `search_product_forms::inner::LentForms::bad_pairs` meets its contract: from pair s on the first that is bad is the first of all. Assumes nothing.
use mathlib.Core.Path.{sym, ap, ◌∙◌}
use Rattle.arrays.proofs.Lists.{up-hit, up_miss, up_end}
use Rattle.expr.specs.Formula.{is_some}
use Rattle.search_product_forms.specs.Refusals.{bad_pair}
use Rattle.search_product_forms.specs.Lent.{forms_of}
use Rattle.search_product_forms.proofs.inner.LentForms.bad_pairs.Goals as goal

pub returns-then-bad_pair : goal.returns-then-bad_pair
returns-then-bad_pair c =
    let l = c.loop-s in
    let a = c.args in
    let test = bad_pair a.self.now.count (forms_of a.self.now) in
    ap is_some (sym (up-hit test a.self.now.n l.s c.loop-s-test.true (sym c.bad_pair.ensures ∙ c.if-bad_pair.true)) ∙ l.invariant)

pub loop-s-preserved : goal.loop-s-preserved
loop-s-preserved c =
    let l = c.loop-s in
    let a = c.args in
    let test = bad_pair a.self.now.count (forms_of a.self.now) in
    up_miss test a.self.now.n l.s c.loop-s-test.true (sym c.bad_pair.ensures ∙ c.if-bad_pair.false) ∙ l.invariant

pub returns : goal.returns
returns c =
    let l = c.loop-s in
    let a = c.args in
    let test = bad_pair a.self.now.count (forms_of a.self.now) in
    ap is_some (sym (up_end test a.self.now.n l.s c.loop-s-test.false) ∙ l.invariant)
