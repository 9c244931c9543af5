-- `search_product_pairs::inner::try_class` meets its contract: the trials up to the sweep's place are done; places that are passed over are not of the class, or don't fit. Assumes nothing.
use mathlib.Core.Path.{◌∙◌}
use Prim.Native.Nat.{◌+◌}
use Rattle.search_filter.specs.Sweeps.{in_class}
use Rattle.search_filter.proofs.PlaceLaws.{skips_join, skips-narrow}
use Rattle.search_filter.proofs.Words.{slot-below}
use Rattle.search_product_forms.specs.Lent.{forms_of}
use Rattle.search_product_trial.specs.Searches.{fits_in}
use Rattle.search_product_trial.specs.Steps.{fits_at}
use Rattle.search_product_trial.proofs.Keeping.{to_start, to_pass, to_offer, pairs-same}
use Rattle.search_product_pairs.proofs.Slots.{at_place, places_all}
use native.Mathlib.Omega.{arith}
use Rattle.search_product_pairs.proofs.inner.try_class.Goals as goal

pub loop-place-init : goal.loop-place-init
loop-place-init c =
    let e = c.first_place-place.ensures in
    let a = c.args in
    let f = forms_of a.search.now.forms in
    let test = fits_in a.search.now in (
      e.sweeping,
      to_pass f test (at_place a.a a.search.now.order.now) 0 0 c.first_place-place.result.at a.best a.best (omega arith) e.from
          (λ k l h. pairs-same a.search.now.w a.search.now.atoms.now a.search.now.listed.now a.search.now.target.now a.a _ ∙ skips-narrow (in_class a.class a.search.now.listed.now) (fits_at a.search.now.w a.search.now.target.now a.search.now.atoms.now a.a a.search.now.listed.now) a.search.now.order.now 0 _ c.requires.3.is e.skips k l h)
          (to_start f test (at_place a.a a.search.now.order.now) 0 a.best),
    )

pub offer_pair-kept-requires : goal.offer_pair-kept-requires
offer_pair-kept-requires c =
    let a = c.args in
    let lent = c.requires.0 in
    (lent.written, lent.paired, lent.ordered.most, c.requires.4, slot-below a.search.now.forms.n a.search.now.listed.now a.search.now.order.now lent.ordered c.in-Ok.at c.in-Ok.ensures.below)

pub loop-place-preserved-in-Ok : goal.loop-place-preserved-in-Ok
loop-place-preserved-in-Ok c =
    let e = c.next_from-place.ensures in
    let hit = c.in-Ok.ensures in
    let l = c.loop-place in
    let a = c.args in
    let f = forms_of a.search.now.forms in
    let test = fits_in a.search.now in
    let g = at_place a.a a.search.now.order.now in
    let same = pairs-same a.search.now.w a.search.now.atoms.now a.search.now.listed.now a.search.now.target.now a.a in
    let at = c.in-Ok.at in (
      e.sweeping,
      to_pass f test g 0 (at + 1) c.next_from-place.result.at a.best c.offer_pair-kept.result (omega arith) e.from
          (λ k m h. same _ ∙ skips-narrow (in_class a.class a.search.now.listed.now) (fits_at a.search.now.w a.search.now.target.now a.search.now.atoms.now a.a a.search.now.listed.now) a.search.now.order.now (at + 1) _ c.requires.3.is e.skips k m h)
          (to_offer f test g 0 at a.best l.kept c.offer_pair-kept.result (omega arith) (same _ ∙ hit.passes) c.offer_pair-kept.ensures
          (to_pass f test g 0 l.place.at at a.best l.kept (omega arith) hit.from (λ k m h. same _ ∙ hit.skips k m h) l.invariant.1)),
    )

pub loop-place-preserved : goal.loop-place-preserved
loop-place-preserved c =
    let e = c.next_from-place-in-Err.ensures in
    let passed = c.in-Err.ensures in
    let l = c.loop-place in
    let a = c.args in
    let f = forms_of a.search.now.forms in
    let test = fits_in a.search.now in
    let g = at_place a.a a.search.now.order.now in
    let fit = fits_at a.search.now.w a.search.now.target.now a.search.now.atoms.now a.a a.search.now.listed.now in
    let end = c.in-Err.end in (
      e.sweeping,
      to_pass f test g 0 l.place.at c.next_from-place-in-Err.result.at a.best l.kept (omega arith) (omega (arith, passed.past, e.from))
          (λ k m h. pairs-same a.search.now.w a.search.now.atoms.now a.search.now.listed.now a.search.now.target.now a.a _ ∙ skips_join fit a.search.now.order.now l.place.at end _ passed.skips (skips-narrow (in_class a.class a.search.now.listed.now) fit a.search.now.order.now end _ c.requires.3.is e.skips) k m h)
          l.invariant.1,
    )

pub returns : goal.returns
returns c =
    let l = c.loop-place in
    let a = c.args in
    places_all (forms_of a.search.now.forms) (fits_in a.search.now) a.a a.best l.kept a.search.now.forms.n a.search.now.order.now c.requires.0.ordered.order-fit l.place.at (omega (arith, c.loop-place-test.false, l.invariant.0.within)) l.invariant.1
