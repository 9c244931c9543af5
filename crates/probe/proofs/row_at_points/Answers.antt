-- `probe::row_at_points` meets its contract: the places passed hold the value at their points. Assumes nothing.
use mathlib.Core.Path.{◌≡◌, refl, sym, ◌∙◌}
use native.Mathlib.Omega.{arith}
use borrow.Author.Rules.{rules}
use lib.ListN.{length, length-set}
use Rattle.arrays.proofs.Fill.{filled_more, filled-all}
use Rattle.expr.specs.Formula.{tokens}
use Rattle.probe.specs.FormulaRow.{row_of}
use Rattle.probe.proofs.FormulaRows.{length-row_of, get_or-row_of}
use Rattle.probe.proofs.row_at_points.Goals as goal

pub loop-k-preserved : goal.loop-k-preserved
loop-k-preserved c =
    let l = c.loop-k in
    let ts = tokens c.args.count c.args.ops.now c.args.operands.now in (
      simp length-set (omega arith),
      filled_more _ l.row l.k c.value_at.result (omega arith) l.invariant.1 (c.value_at.ensures ∙ sym (get_or-row_of c.args.w c.args.points ts _ l.k (search rules))),
    )

pub returns : goal.returns
returns c =
    let l = c.loop-k in
    let ts = tokens c.args.count c.args.ops.now c.args.operands.now in
    let long : length c.args.points ≡ 16 = search rules in
    let wide : length (row_of c.args.w c.args.points ts) ≡ 16 = length-row_of c.args.w c.args.points ts ∙ long in
    filled-all _ l.row (row_of c.args.w c.args.points ts) l.k (omega arith) (omega arith) l.invariant.1 (λ j h. refl)
