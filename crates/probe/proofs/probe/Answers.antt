-- `probe::probe` meets its contract: what passed the tests has a row. Assumes nothing.
use mathlib.Core.Path.{sym, ◌∙◌}
use Rattle.limits.proofs.Refusals.{within}
use Rattle.expr.specs.Formula.{tokens}
use Rattle.expr.proofs.Machine.{formula-more}
use Rattle.probe.proofs.probe.Goals as goal

pub row_at_points-requires : goal.row_at_points-requires
row_at_points-requires c =
    let a = c.args in (
      (within 1 64 a.w (sym c.bad_width.ensures ∙ c.if-bad_width.false)).most,
      formula-more a.nv 6 (within 1 6 a.nv (sym c.bad_count.ensures ∙ c.if-bad_count.false)).most (tokens a.token_count a.ops.now a.operands.now) (sym c.is_formula.ensures ∙ c.if-not-is_formula.false),
    )
