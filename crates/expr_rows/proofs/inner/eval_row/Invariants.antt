-- `expr_rows::inner::eval_row` meets its contract: each lane goes as the evaluator's stack. Assumes nothing.
use Rattle.expr_rows.proofs.Lanes.{RowStage}
use Rattle.expr_rows.proofs.inner.eval_row.Given as goal

abbrev pub invariant-loop-i : goal.invariant-loop-i
invariant-loop-i l =
    RowStage l.w l.nv l.f.count l.ops l.operands l.records l.stack l.sp l.i
