-- `rule_run::inner::run_record` meets its contract: a refused record changes nothing, and another is fed by the formula's value. Assumes nothing.
use Rattle.std.proofs.Common.{ℕ, [], ◌∷◌, sym, refl, ap, ◌∙◌, arith}
use Rattle.arrays.specs.Parts.{part_at}
use Rattle.limits.proofs.Refusals.{outcome-word}
use Rattle.rule_run.specs.Window.{mark_at, ran_or}
use Rattle.rule_run.specs.Steps.{record_answer}
use Rattle.rule_run.specs.Lent.{tokens_of, record_refusal, record_word}
use Rattle.rule_run.proofs.Feeding.{ready, mark-is, marks-low}
use Rattle.rule_run.proofs.inner.run_record.Goals as goal

pub feed_record-requires : goal.feed_record-requires
feed_record-requires c =
    let a = c.args in
    let r = a.rule.now in
    let w = outcome-word _ (record_refusal r a.nv a.w a.words.now) (record_word r a.nv a.w a.words.now) c.in_ok-value.ensures in
    let f = ready a.nv a.w r.token_count r.ops.now r.operands.now r.m r.window 1 a.words.now (0 ∷ []) w.0 in
    (omega (arith, f.0.least, f.0.reach), f.0.most)

pub returns : goal.returns
returns c =
    let a = c.args in
    let r = a.rule.now in
    let w = outcome-word _ (record_refusal r a.nv a.w a.words.now) (record_word r a.nv a.w a.words.now) c.in_ok-value.ensures in
    let ts = tokens_of r in
    let mark : ℕ → ℕ = mark_at a.nv a.w ts a.words.now in
    c.feed_record.ensures mark (marks-low a.nv a.w ts a.words.now) (mark-is a.nv a.w ts a.words.now (part_at a.nv a.words.now 0) 0 _ refl w.1)
    ∙ ap (λ (n : ℕ). record_answer (ran_or n mark r.m r.window a.state 1 (0 ∷ []))) (sym w.0)
