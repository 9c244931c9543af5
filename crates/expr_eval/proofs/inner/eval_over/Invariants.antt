-- `expr_eval::inner::eval_over` meets its contract: reading the rest over what the array holds gives the value. Assumes nothing.
use mathlib.Core.Path.{◌≡◌}
use lib.ListN.{length}
use Rattle.expr_eval.proofs.Stack.{Stage}
use Rattle.expr_eval.proofs.inner.eval_over.Given as goal

abbrev pub invariant-loop-i : goal.invariant-loop-i
invariant-loop-i l =
    (length l.stack ≡ length l.initial.stack) × Stage l.w l.words l.f.count l.ops l.operands l.stack l.sp l.i
