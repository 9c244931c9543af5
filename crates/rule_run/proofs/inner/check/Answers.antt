-- `rule_run::inner::check` meets its contract: each test is that of its number. Assumes nothing.
use Rattle.std.proofs.Common.{not, sym, ap, ◌∙◌}
use Rattle.limits.proofs.Refusals.{or_here, or_later, within}
use Rattle.rule_run.proofs.Feeding.{refusal_1, refusal_2, refusal_4, refusal_6, refusal_10, refusal-none}
use Rattle.rule_run.proofs.inner.check.Goals as goal

pub returns-then-bad_count : goal.returns-then-bad_count
returns-then-bad_count c =
    let a = c.args in
    let r = a.rule.now in
    let x = a.records.now in
    refusal_1 x.nv x.w r.token_count r.ops.now r.operands.now r.m r.window x.n x.words.now a.answers.now (sym c.bad_count.ensures ∙ c.if-bad_count.true)

pub returns-then-bad_width : goal.returns-then-bad_width
returns-then-bad_width c =
    let a = c.args in
    let r = a.rule.now in
    let x = a.records.now in
    refusal_2 x.nv x.w r.token_count r.ops.now r.operands.now r.m r.window x.n x.words.now a.answers.now (sym c.bad_count.ensures ∙ c.if-bad_count.false) (sym c.bad_width.ensures ∙ c.if-bad_width.true)

pub returns-then-too_short : goal.returns-then-too_short
returns-then-too_short c =
    let a = c.args in
    let r = a.rule.now in
    let x = a.records.now in
    refusal_4 x.nv x.w r.token_count r.ops.now r.operands.now r.m r.window x.n x.words.now a.answers.now (sym c.bad_count.ensures ∙ c.if-bad_count.false) (sym c.bad_width.ensures ∙ c.if-bad_width.false) (or_here _ (sym c.too_short.ensures ∙ c.if-too_short.true))

pub too_few-requires : goal.too_few-requires
too_few-requires c = (within 1 6 c.args.records.now.nv (sym c.bad_count.ensures ∙ c.if-bad_count.false)).least

pub returns-then-too_few : goal.returns-then-too_few
returns-then-too_few c =
    let a = c.args in
    let r = a.rule.now in
    let x = a.records.now in
    refusal_4 x.nv x.w r.token_count r.ops.now r.operands.now r.m r.window x.n x.words.now a.answers.now (sym c.bad_count.ensures ∙ c.if-bad_count.false) (sym c.bad_width.ensures ∙ c.if-bad_width.false) (or_later (sym c.too_short.ensures ∙ c.if-too_short.false) (sym c.too_few.ensures ∙ c.if-too_few.true))

pub returns-then-not-is_formula : goal.returns-then-not-is_formula
returns-then-not-is_formula c =
    let a = c.args in
    let r = a.rule.now in
    let x = a.records.now in
    refusal_6 x.nv x.w r.token_count r.ops.now r.operands.now r.m r.window x.n x.words.now a.answers.now (sym c.bad_count.ensures ∙ c.if-bad_count.false) (sym c.bad_width.ensures ∙ c.if-bad_width.false) (or_later (sym c.too_short.ensures ∙ c.if-too_short.false) (sym c.too_few.ensures ∙ c.if-too_few.false)) (sym (ap not c.is_formula.ensures) ∙ (ap not c.if-not-is_formula.true))

pub returns-then-bad_window : goal.returns-then-bad_window
returns-then-bad_window c =
    let a = c.args in
    let r = a.rule.now in
    let x = a.records.now in
    refusal_10 x.nv x.w r.token_count r.ops.now r.operands.now r.m r.window x.n x.words.now a.answers.now (sym c.bad_count.ensures ∙ c.if-bad_count.false) (sym c.bad_width.ensures ∙ c.if-bad_width.false) (or_later (sym c.too_short.ensures ∙ c.if-too_short.false) (sym c.too_few.ensures ∙ c.if-too_few.false)) (sym (ap not c.is_formula.ensures) ∙ (ap not c.if-not-is_formula.false)) (sym c.bad_window.ensures ∙ c.if-bad_window.true)

pub returns : goal.returns
returns c =
    let a = c.args in
    let r = a.rule.now in
    let x = a.records.now in
    refusal-none x.nv x.w r.token_count r.ops.now r.operands.now r.m r.window x.n x.words.now a.answers.now (sym c.bad_count.ensures ∙ c.if-bad_count.false) (sym c.bad_width.ensures ∙ c.if-bad_width.false) (or_later (sym c.too_short.ensures ∙ c.if-too_short.false) (sym c.too_few.ensures ∙ c.if-too_few.false)) (sym (ap not c.is_formula.ensures) ∙ (ap not c.if-not-is_formula.false)) (sym c.bad_window.ensures ∙ c.if-bad_window.false)
