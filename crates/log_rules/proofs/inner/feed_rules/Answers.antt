-- `log_rules::inner::feed_rules` meets its contract: rule after rule. Assumes nothing.
use Rattle.limits.specs.Refusal.{refusal_of}
use mathlib.Core.Path.{◌≡◌, refl, sym, ◌∙◌}
use lib.ListN.{length-set}
use Rattle.log_rules.specs.Lent.{rules_of}
use Rattle.log_rules.proofs.Feeding.{went_none, went-more, went_at, went_windows}
use borrow.Author.Rules.{rules}
use native.Mathlib.Omega.{arith}
use Rattle.log_rules.proofs.Asking.{lent_at}
use Rattle.log_rules.proofs.inner.feed_rules.Goals as goal

pub loop-i-init : goal.loop-i-init
loop-i-init c = let a = c.args in let x = a.records.now in
    (refl, (refl, (refl, went_none x.nv x.w (rules_of a.rules.now) x.words.now a.seen.now x.n a.fired.now c.requires.n_in_bounds.1.1)))

pub bounds-seen-i : goal.bounds-seen-i
bounds-seen-i c = omega (arith, c.requires.lends.1.0.few, c.requires.lends.1.1, c.loop-i.invariant.1.1.0, c.loop-i-test.true)

pub ask_at-x-requires : goal.ask_at-x-requires
ask_at-x-requires c =
    let x = c.args.records.now in
    let p = c.requires.lends.0 in (
      lent_at x.nv x.w c.loop-i.i x.n (rules_of c.args.rules.now) x.n x.words.now p c.loop-i-test.true p.fits,
      omega (arith, c.requires.n_in_bounds.0, c.loop-i.invariant.0),
    )

pub offset_bounds-seen-i-in-loop-i : goal.offset_bounds-seen-i-in-loop-i
offset_bounds-seen-i-in-loop-i c = omega (arith, c.requires.lends.1.0.few, c.loop-i-test.true)

pub bounds-seen-i-in-loop-i : goal.bounds-seen-i-in-loop-i
bounds-seen-i-in-loop-i c = omega (arith, c.requires.lends.1.0.few, c.requires.lends.1.1, c.loop-i.invariant.1.1.0, c.loop-i-test.true)

pub offset_bounds-rules-i : goal.offset_bounds-rules-i
offset_bounds-rules-i c = omega (arith, c.requires.lends.1.0.few, c.loop-i-test.true)

pub bounds-rules-i : goal.bounds-rules-i
bounds-rules-i c = omega (arith, c.requires.lends.0.ranks, c.loop-i-test.true)

pub overflow_cast-rules : goal.overflow_cast-rules
overflow_cast-rules c = omega (arith, c.requires.lends.1.0.most c.loop-i.i c.loop-i-test.true)

pub offer-requires : goal.offer-requires
offer-requires c = let l = c.loop-i in (omega (arith, c.requires.n_in_bounds.1.0, l.invariant.1.0), omega (arith, c.requires.n_in_bounds.0, l.invariant.0, c.ask_at-x.auto.answers))

pub loop-i-preserved : goal.loop-i-preserved
loop-i-preserved c = let a = c.args in let x = a.records.now in
    let l = c.loop-i in
    let h = c.loop-i-test.true in (
      omega (arith, c.ask_at-x.auto.answers, l.invariant.0),
      (
        omega (arith, c.offer.auto.fired, l.invariant.1.0),
        (
          length-set l.seen l.i c.past_after.result ∙ l.invariant.1.1.0,
          went-more x.nv x.w (rules_of a.rules.now) x.words.now a.seen.now x.n l.i (refusal_of l.tested) l.seen l.fired (refusal_of c.test_of.result) c.past_after.result (refusal_of c.least_refusal-tested.result) _ c.ask_at-x.new.answers c.offer.new.fired (omega (arith, c.requires.lends.1.0.few, c.requires.lends.1.1, l.invariant.1.1.0, h)) refl (c.test_of.ensures ∙ c.ask_at-x.ensures.refusal_value) (λ e. c.past_after.ensures ∙ c.ask_at-x.ensures.past_value (sym c.test_of.ensures ∙ e)) (λ e. c.ask_at-x.ensures.k_after (sym c.test_of.ensures ∙ e)) c.offer.ensures c.least_refusal-tested.ensures l.invariant.1.1.1,
        ),
      ),
    )

pub returns : goal.returns
returns c = let a = c.args in let x = a.records.now in
    let l = c.loop-i in
    let end : l.i ≡ a.rules.now.count = search rules in
    let g = went_at x.nv x.w (rules_of a.rules.now) x.words.now a.seen.now x.n (refusal_of l.tested) l.seen l.fired end l.invariant.1.1.1 in record {
      value = g.number;
      i_after = went_windows x.nv x.w (rules_of a.rules.now) x.words.now a.seen.now x.n a.rules.now.count (refusal_of l.tested) l.seen l.fired g;
      k_after = g.ranks;
    }
