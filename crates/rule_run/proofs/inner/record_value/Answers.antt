-- `rule_run::inner::record_value` meets its contract: each test is that of its number, and the value is that of the first record. Assumes nothing.
use Rattle.std.proofs.Common.{ℕ, [], ◌∷◌, length, sym, ap, ◌∙◌, arith}
use Rattle.arrays.proofs.Parts.{length-part}
use Rattle.limits.specs.Refusal.{refuse, outcome}
use Rattle.limits.proofs.Refusals.{within, or_here}
use Rattle.expr.specs.Answers.{not_formula}
use Rattle.expr_eval.specs.Answers.{checked}
use Rattle.rule_run.proofs.Feeding.{refusal_1, refusal_2, refusal_4}
use Rattle.rule_run.proofs.Single.{first_record, one-short, one-fits, last_numbers}
use Rattle.rule_run.specs.Lent.{record_word}
use Rattle.rule_run.proofs.inner.record_value.Goals as goal

pub returns-then-bad_count : goal.returns-then-bad_count
returns-then-bad_count c =
    let a = c.args in
    let r = a.rule.now in
    ap (λ (n : ℕ). outcome n (record_word r a.nv a.w a.words.now)) (refusal_1 a.nv a.w r.token_count r.ops.now r.operands.now r.m r.window 1 a.words.now (0 ∷ []) (sym c.bad_count.ensures ∙ c.if-bad_count.true))

pub returns-then-bad_width : goal.returns-then-bad_width
returns-then-bad_width c =
    let a = c.args in
    let r = a.rule.now in
    ap (λ (n : ℕ). outcome n (record_word r a.nv a.w a.words.now)) (refusal_2 a.nv a.w r.token_count r.ops.now r.operands.now r.m r.window 1 a.words.now (0 ∷ []) (sym c.bad_count.ensures ∙ c.if-bad_count.false) (sym c.bad_width.ensures ∙ c.if-bad_width.true))

pub returns-then-too_short : goal.returns-then-too_short
returns-then-too_short c =
    let a = c.args in
    let r = a.rule.now in
    ap (λ (n : ℕ). outcome n (record_word r a.nv a.w a.words.now)) (refusal_4 a.nv a.w r.token_count r.ops.now r.operands.now r.m r.window 1 a.words.now (0 ∷ []) (sym c.bad_count.ensures ∙ c.if-bad_count.false) (sym c.bad_width.ensures ∙ c.if-bad_width.false) (or_here _ (sym c.too_short.ensures ∙ c.if-too_short.true)))

pub returns-then-words-nv : goal.returns-then-words-nv
returns-then-words-nv c =
    let a = c.args in
    let r = a.rule.now in
    ap (λ (n : ℕ). outcome n (record_word r a.nv a.w a.words.now)) (refusal_4 a.nv a.w r.token_count r.ops.now r.operands.now r.m r.window 1 a.words.now (0 ∷ []) (sym c.bad_count.ensures ∙ c.if-bad_count.false) (sym c.bad_width.ensures ∙ c.if-bad_width.false) (one-short a.nv a.w r.token_count r.ops.now r.operands.now r.m r.window a.words.now (sym c.too_short.ensures ∙ c.if-too_short.false) c.if-words-nv.true))

pub eval_checked-x-requires : goal.eval_checked-x-requires
eval_checked-x-requires c =
    let a = c.args in
    ((within 1 64 a.w (sym c.bad_width.ensures ∙ c.if-bad_width.false)).most, (let e = ap length (first_record a.nv a.words.now) ∙ length-part a.nv a.words.now 0 (omega (arith, c.if-words-nv.false)) in omega (arith, e)))

pub returns : goal.returns
returns c =
    let a = c.args in
    let r = a.rule.now in
    let e = c.eval_checked-x.ensures ∙ ap (checked a.nv a.w r.token_count r.ops.now r.operands.now) (first_record a.nv a.words.now) in
    c.after_window.ensures (refuse (not_formula a.nv r.token_count r.ops.now r.operands.now) 6 0) (record_word r a.nv a.w a.words.now) e
    ∙ ap (λ (n : ℕ). outcome n (record_word r a.nv a.w a.words.now)) (last_numbers a.nv a.w r.token_count r.ops.now r.operands.now r.m r.window a.words.now (sym c.bad_count.ensures ∙ c.if-bad_count.false) (sym c.bad_width.ensures ∙ c.if-bad_width.false) (one-fits a.nv a.w r.token_count r.ops.now r.operands.now r.m r.window a.words.now (sym c.too_short.ensures ∙ c.if-too_short.false) c.if-words-nv.false))
