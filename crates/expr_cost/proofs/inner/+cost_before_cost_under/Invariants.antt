-- The measure is twice the token count for `cost_under`, and one more for `cost_before`, which calls `cost_under` for the same formula. Assumes nothing.
use Rattle.std.proofs.Common.{◌+◌, ◌-◌, ◌*◌}
use Rattle.expr_cost.specs.Span.{back}
use Rattle.expr_cost.proofs.inner.+cost_before_cost_under.Given as goal

abbrev pub decreases-cost_before : goal.decreases-cost_before
decreases-cost_before l = 2 * (l.to - back l.ops.now l.operands.now l.to 1) + 1

abbrev pub decreases-cost_under : goal.decreases-cost_under
decreases-cost_under l = 2 * (l.to - back l.ops.now l.operands.now l.to 1)
