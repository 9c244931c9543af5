-- `search_product_pairs::inner::try_slots` meets its contract: the trials up to slot s are done, and s fits if it is one. Assumes nothing.
use mathlib.Core.Path.{◌∙◌}
use Prim.Native.Nat.{◌+◌}
use Rattle.search_product_forms.specs.Lent.{forms_of}
use Rattle.search_product_trial.specs.Trying.{Product}
use Rattle.search_product_trial.specs.Searches.{fits_in}
use Rattle.search_product_trial.proofs.Keeping.{to_start, to_pass, to_offer, pairs-same}
use native.Mathlib.Omega.{arith}
use Rattle.search_product_pairs.proofs.inner.try_slots.Goals as goal

pub loop-s-init : goal.loop-s-init
loop-s-init c =
    let e = c.next_slot-s.ensures in
    let a = c.args in
    let f = forms_of a.search.now.forms in
    let test = fits_in a.search.now in (
      e.to,
      e.stops,
      to_pass f test (Product.of_pair a.a) 0 0 c.next_slot-s.result a.best a.best (omega arith) e.from
          (λ k l h. pairs-same a.search.now.w a.search.now.atoms.now a.search.now.listed.now a.search.now.target.now a.a k ∙ e.skips k l h)
          (to_start f test (Product.of_pair a.a) 0 a.best),
    )

pub loop-s-preserved : goal.loop-s-preserved
loop-s-preserved c =
    let e = c.next_slot-s-in-loop-s.ensures in
    let l = c.loop-s in
    let a = c.args in
    let f = forms_of a.search.now.forms in
    let test = fits_in a.search.now in
    let same = pairs-same a.search.now.w a.search.now.atoms.now a.search.now.listed.now a.search.now.target.now a.a in (
      e.to,
      e.stops,
      to_pass f test (Product.of_pair a.a) 0 (l.s + 1) c.next_slot-s-in-loop-s.result a.best c.offer_pair-kept.result (omega arith) e.from
          (λ k m h. same k ∙ e.skips k m h)
          (to_offer f test (Product.of_pair a.a) 0 l.s a.best l.kept c.offer_pair-kept.result (omega arith) (same l.s ∙ l.invariant.1 c.loop-s-test.true) c.offer_pair-kept.ensures l.invariant.2),
    )
