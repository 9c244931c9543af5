-- `search_product_atoms::inner::try_atom` meets its contract: the trials up to atom b are done, and b fits if it is one; or all are too dear, or none fits. Assumes nothing.
use mathlib.Core.Path.{sym, ◌∙◌}
use Prim.Native.Nat.{◌+◌, ◌-◌}
use borrow.Author.Tests.{leb-false}
use Rattle.arrays.specs.Lists.{count_up}
use Rattle.arrays.proofs.Lists.{count_in}
use Rattle.search_product_forms.specs.Lent.{forms_with}
use Rattle.search_product_forms.proofs.Forming.{written_with}
use Rattle.search_product_trial.specs.Trying.{Product, fitting}
use Rattle.search_product_trial.proofs.Keeping.{none_kept, to_start, to_pass, to_offer, atom_dear, atoms-same}
use native.Mathlib.Omega.{arith}
use Rattle.search_product_atoms.proofs.inner.try_atom.Goals as goal

pub returns-then-not-may_beat : goal.returns-then-not-may_beat
returns-then-not-may_beat c listed pairs =
    let a = c.args in
    let w = written_with a.search.now.forms pairs c.requires.2.written in
    atom_dear w (fitting a.search.now.w a.search.now.atoms.now listed a.search.now.target.now) a.a c.requires.1 a.best
    (leb-false _ _ (sym c.may_beat.ensures ∙ c.if-not-may_beat.true)) (count_up a.a (a.search.now.forms.count - a.a))
    (λ b i. omega (arith, (count_in a.a (a.search.now.forms.count - a.a) b i).1, c.requires.1))

pub returns-then-not-may_fit : goal.returns-then-not-may_fit
returns-then-not-may_fit c listed pairs =
    let a = c.args in
    none_kept (forms_with a.search.now.forms pairs) (fitting a.search.now.w a.search.now.atoms.now listed a.search.now.target.now) (Product.of_atoms a.a) (count_up a.a (a.search.now.forms.count - a.a)) a.best
    (λ b. atoms-same a.search.now.w a.search.now.atoms.now listed a.search.now.target.now a.a b ∙ c.may_fit.ensures.never c.if-not-may_fit.true a.search.now.atoms.now b)

pub loop-b-init : goal.loop-b-init
loop-b-init c =
    let e = c.next_atom-b.ensures in
    let a = c.args in (
      e.from,
      e.to,
      e.stops,
      λ listed pairs.
          let f = forms_with a.search.now.forms pairs in
          let test = fitting a.search.now.w a.search.now.atoms.now listed a.search.now.target.now in
          to_pass f test (Product.of_atoms a.a) a.a a.a c.next_atom-b.result a.best a.best (omega arith) e.from
          (λ k l h. atoms-same a.search.now.w a.search.now.atoms.now listed a.search.now.target.now a.a k ∙ e.skips k l h)
          (to_start f test (Product.of_atoms a.a) a.a a.best),
    )

pub loop-b-preserved : goal.loop-b-preserved
loop-b-preserved c =
    let e = c.next_atom-b-in-loop-b.ensures in
    let l = c.loop-b in
    let a = c.args in (
      omega (arith, l.invariant.0, e.from),
      e.to,
      e.stops,
      λ listed pairs.
          let f = forms_with a.search.now.forms pairs in
          let test = fitting a.search.now.w a.search.now.atoms.now listed a.search.now.target.now in
          let same = atoms-same a.search.now.w a.search.now.atoms.now listed a.search.now.target.now a.a in
          to_pass f test (Product.of_atoms a.a) a.a (l.b + 1) c.next_atom-b-in-loop-b.result a.best c.offer_atoms-kept.result (omega (arith, l.invariant.0)) e.from
          (λ k m h. same k ∙ e.skips k m h)
          (to_offer f test (Product.of_atoms a.a) a.a l.b a.best l.kept c.offer_atoms-kept.result l.invariant.0 (same l.b ∙ l.invariant.2 c.loop-b-test.true) (c.offer_atoms-kept.ensures pairs) (l.invariant.3 listed pairs)),
    )
