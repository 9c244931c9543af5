-- `log_rules::inner::feed_record` meets its contract: rule after rule, over a list of one record. Assumes nothing.
use Rattle.limits.specs.Refusal.{refusal_of}
use mathlib.Core.Path.{◌≡◌, refl, sym, ap, ◌∙◌}
use Rattle.std.specs.Prelude.{Result, Ok, Err}
use Rattle.limits.specs.declared.Refusal.{Refusal}
use Rattle.limits.proofs.Answers.{number-positive}
use mathlib.Core.Bool.{cond}
use mathlib.Core.List.{[], ◌∷◌}
use Prim.Native.Nat.{ℕ}
use native.Mathlib.Omega.{arith}
use borrow.Author.Rules.{rules}
use lib.Dec.{eqb}
use lib.ListN.{get_or, length-set}
use Rattle.arrays.proofs.Lists.{first_alone}
use Rattle.log_rules.specs.Rules.{rule_at}
use Rattle.log_rules.specs.Lent.{rules_of}
use Rattle.log_rules.specs.Firing.{no_rank, lesser}
use Rattle.log_rules.specs.Steps.{fires_on}
use Rattle.log_rules.proofs.Feeding.{went_none, went-more, went_at, went_windows}
use Rattle.log_rules.proofs.Asking.{lent_at}
use Rattle.log_rules.proofs.inner.feed_record.Goals as goal

pub loop-i-init : goal.loop-i-init
loop-i-init c =
    let a = c.args in
    (refl, went_none a.nv a.w (rules_of a.rules.now) a.words.now a.seen.now 1 (no_rank ∷ []) (first_alone (λ (k : ℕ). get_or (no_rank ∷ []) k 0 ≡ no_rank) refl))

pub bounds-seen-i : goal.bounds-seen-i
bounds-seen-i c =
    let a = c.args in
    let l = c.loop-i in
    let h = c.loop-i-test.true in
    omega (arith, c.requires.1.0.few, c.requires.1.1, l.invariant.0, h)

pub ask_record_at-x-requires : goal.ask_record_at-x-requires
ask_record_at-x-requires c =
    let a = c.args in
    let p = c.requires.0 in
    lent_at a.nv a.w c.loop-i.i 1 (rules_of a.rules.now) 1 a.words.now p c.loop-i-test.true p.fits

pub offset_bounds-seen-i-in-loop-i : goal.offset_bounds-seen-i-in-loop-i
offset_bounds-seen-i-in-loop-i c =
    let a = c.args in
    let l = c.loop-i in
    let h = c.loop-i-test.true in
    omega (arith, c.requires.1.0.few, h)

pub bounds-seen-i-in-loop-i : goal.bounds-seen-i-in-loop-i
bounds-seen-i-in-loop-i c =
    let a = c.args in
    let l = c.loop-i in
    let h = c.loop-i-test.true in
    omega (arith, c.requires.1.0.few, c.requires.1.1, l.invariant.0, h)

pub offset_bounds-rules-i : goal.offset_bounds-rules-i
offset_bounds-rules-i c =
    let a = c.args in
    let l = c.loop-i in
    let h = c.loop-i-test.true in
    omega (arith, c.requires.1.0.few, h)

pub bounds-rules-i : goal.bounds-rules-i
bounds-rules-i c =
    let a = c.args in
    let l = c.loop-i in
    let h = c.loop-i-test.true in
    omega (arith, c.requires.0.ranks, h)

pub overflow_cast-rules : goal.overflow_cast-rules
overflow_cast-rules c =
    let a = c.args in
    let l = c.loop-i in
    let h = c.loop-i-test.true in
    omega (arith, c.requires.1.0.most l.i h)

pub loop-i-preserved : goal.loop-i-preserved
loop-i-preserved c =
    let a = c.args in
    let l = c.loop-i in
    let h = c.loop-i-test.true in
    let o = c.offered-rank in (
      length-set l.seen l.i c.record_after-y.result.state.past ∙ l.invariant.0,
      went-more a.nv a.w (rules_of a.rules.now) a.words.now a.seen.now 1 l.i (refusal_of l.tested) l.seen (l.rank ∷ []) (refusal_of c.test_of.result) c.record_after-y.result.state.past (refusal_of c.least_refusal-tested.result) _ (c.record_after-y.result.answer ∷ []) (o.result ∷ []) (omega (arith, c.requires.1.0.few, c.requires.1.1, l.invariant.0, h)) refl (c.test_of.ensures ∙ c.ask_record_at-x.ensures.refusal_value) (λ e. c.record_after-y.ensures.past_value ∙ c.ask_record_at-x.ensures.past_value (sym c.test_of.ensures ∙ e))
          (λ e. first_alone (λ (k : ℕ). eqb (get_or (c.record_after-y.result.answer ∷ []) k 0) 1 ≡ fires_on a.nv a.w (rule_at (rules_of a.rules.now) l.i) a.words.now (get_or l.seen l.i 0) k) (ap (λ (x : ℕ). eqb x 1) c.record_after-y.ensures.answer_value ∙ c.ask_record_at-x.ensures.answer_value (sym c.test_of.ensures ∙ e)))
          (first_alone (λ (k : ℕ). get_or (o.result ∷ []) k 0 ≡ cond (eqb (get_or (c.record_after-y.result.answer ∷ []) k 0) 1) (lesser (get_or (l.rank ∷ []) k 0) _) (get_or (l.rank ∷ []) k 0)) o.ensures) c.least_refusal-tested.ensures l.invariant.1,
    )

-- the rank that is told
abbrev told : Result ℕ Refusal → ℕ
told (Ok rank) = rank
told (Err r) = 0

pub returns-in-Ok : goal.returns-in-Ok
returns-in-Ok c =
    let a = c.args in
    let l = c.loop-i in
    let end : l.i ≡ a.rules.now.count = search rules in
    let g = went_at a.nv a.w (rules_of a.rules.now) a.words.now a.seen.now 1 (refusal_of l.tested) l.seen (l.rank ∷ []) end l.invariant.1 in
    let windows = went_windows a.nv a.w (rules_of a.rules.now) a.words.now a.seen.now 1 a.rules.now.count (refusal_of l.tested) l.seen (l.rank ∷ []) g in
    let e = ap refusal_of c.in-Ok.is in record {
      refusal_value = sym e ∙ g.number;
      i_after = λ z. windows e;
      rank_value = λ rank p. sym (ap told p) ∙ g.ranks e 0 (omega arith);
    }

pub returns-in-Err : goal.returns-in-Err
returns-in-Err c =
    let a = c.args in
    let l = c.loop-i in
    let end : l.i ≡ a.rules.now.count = search rules in
    let g = went_at a.nv a.w (rules_of a.rules.now) a.words.now a.seen.now 1 (refusal_of l.tested) l.seen (l.rank ∷ []) end l.invariant.1 in
    let windows = went_windows a.nv a.w (rules_of a.rules.now) a.words.now a.seen.now 1 a.rules.now.count (refusal_of l.tested) l.seen (l.rank ∷ []) g in
    let e = ap refusal_of c.in-Err.is in record {
      refusal_value = sym e ∙ g.number;
      i_after = λ z. windows (e ∙ z);
      rank_value = λ rank p. absurd (let n = number-positive c.in-Err.refusal in let q = ap refusal_of p in omega (arith, n, q));
    }
