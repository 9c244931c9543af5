-- `load_draw::inner::check` meets its contract: each test is that of its number. Assumes nothing.
use mathlib.Core.Path.{sym, ◌∙◌}
use Rattle.load_draw.proofs.Refusing.{refusal_1, refusal_2, refusal_6, refusal_4, refusal-none}
use Rattle.load_draw.proofs.inner.check.Goals as goal

pub returns-then-bad_count : goal.returns-then-bad_count
returns-then-bad_count c = let a = c.args in refusal_1 a.nv a.w a.limit a.ops.now a.operands.now (sym c.bad_count.ensures ∙ c.if-bad_count.true)

pub returns-then-bad_width : goal.returns-then-bad_width
returns-then-bad_width c = let a = c.args in refusal_2 a.nv a.w a.limit a.ops.now a.operands.now (sym c.bad_count.ensures ∙ c.if-bad_count.false) (sym c.bad_width.ensures ∙ c.if-bad_width.true)

pub returns-then-bad_limit : goal.returns-then-bad_limit
returns-then-bad_limit c = let a = c.args in
    refusal_6 a.nv a.w a.limit a.ops.now a.operands.now (sym c.bad_count.ensures ∙ c.if-bad_count.false) (sym c.bad_width.ensures ∙ c.if-bad_width.false) (sym c.bad_limit.ensures ∙ c.if-bad_limit.true)

pub returns-then-too_short : goal.returns-then-too_short
returns-then-too_short c = let a = c.args in
    refusal_4 a.nv a.w a.limit a.ops.now a.operands.now (sym c.bad_count.ensures ∙ c.if-bad_count.false) (sym c.bad_width.ensures ∙ c.if-bad_width.false) (sym c.bad_limit.ensures ∙ c.if-bad_limit.false) (sym c.too_short.ensures ∙ c.if-too_short.true)

pub returns : goal.returns
returns c = let a = c.args in
    refusal-none a.nv a.w a.limit a.ops.now a.operands.now (sym c.bad_count.ensures ∙ c.if-bad_count.false) (sym c.bad_width.ensures ∙ c.if-bad_width.false) (sym c.bad_limit.ensures ∙ c.if-bad_limit.false) (sym c.too_short.ensures ∙ c.if-too_short.false)
