-- `search_product_forms::inner::LentForms::bad_atoms` meets its contract: from atom k on the first that is bad is the first of all. Assumes nothing.
use mathlib.Core.Path.{sym, ap, ◌∙◌}
use Rattle.arrays.proofs.Lists.{up-hit, up_miss, up_end}
use Rattle.expr.specs.Formula.{is_some}
use Rattle.search_product_forms.specs.Refusals.{bad_atom}
use Rattle.search_product_forms.specs.Lent.{forms_of}
use Rattle.search_product_forms.proofs.inner.LentForms.bad_atoms.Goals as goal

pub returns-then-bad_atom : goal.returns-then-bad_atom
returns-then-bad_atom c =
    let l = c.loop-k in
    let a = c.args in
    let test = bad_atom (forms_of a.self.now) in
    ap is_some (sym (up-hit test a.self.now.count l.k c.loop-k-test.true (sym c.bad_atom.ensures ∙ c.if-bad_atom.true)) ∙ l.invariant)

pub loop-k-preserved : goal.loop-k-preserved
loop-k-preserved c =
    let l = c.loop-k in
    let a = c.args in
    let test = bad_atom (forms_of a.self.now) in
    up_miss test a.self.now.count l.k c.loop-k-test.true (sym c.bad_atom.ensures ∙ c.if-bad_atom.false) ∙ l.invariant

pub returns : goal.returns
returns c =
    let l = c.loop-k in
    let a = c.args in
    let test = bad_atom (forms_of a.self.now) in
    ap is_some (sym (up_end test a.self.now.count l.k c.loop-k-test.false) ∙ l.invariant)
