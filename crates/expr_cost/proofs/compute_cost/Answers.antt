-- `expr_cost::compute_cost` meets its contract: what passes ends before its count and begins at 0. Assumes nothing.
use mathlib.Core.Path.{sym, ap, ◌∙◌}
use borrow.Author.Rules.{rules}
use Rattle.expr_cost.specs.declared.inner.SpanCost.{SpanCost}
use Rattle.expr_cost.proofs.Spans.{whole-ends, whole-cost}
use Rattle.expr_cost.proofs.compute_cost.Goals as goal

pub cost_before-whole-requires : goal.cost_before-whole-requires
cost_before-whole-requires c =
    let s = c.args in
    whole-ends s.nv s.token_count s.ops.now s.operands.now (sym c.is_formula.ensures ∙ c.if-not-is_formula.false)

pub returns : goal.returns
returns c =
    let s = c.args in
    let v = ap (λ (x : SpanCost). x.info.cost) c.cost_before-whole.ensures ∙ whole-cost s.nv s.token_count s.ops.now s.operands.now (sym c.is_formula.ensures ∙ c.if-not-is_formula.false) in
    rw v (search rules)
