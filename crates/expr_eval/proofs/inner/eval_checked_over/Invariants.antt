-- `expr_eval::inner::eval_checked_over` meets its contract: the test of the rest is the test of all, and where all passes reading the rest over
-- what the array holds gives the value. Assumes nothing.
use mathlib.Core.Path.{◌≡◌}
use Prim.Native.Nat.{◌≤◌}
use lib.ListN.{length}
use Rattle.expr_eval.proofs.Checking.{Checking}
use Rattle.expr_eval.proofs.inner.eval_checked_over.Given as goal

abbrev pub invariant-loop-i : goal.invariant-loop-i
invariant-loop-i l =
    (length l.stack ≡ length l.initial.stack) × ((l.sp ≤ l.i) × Checking l.nv l.w l.words l.f.count l.ops l.operands l.stack l.sp l.i)
