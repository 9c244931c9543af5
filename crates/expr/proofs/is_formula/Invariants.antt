-- `expr::is_formula` meets its contract: the test from here on, with the values counted so far, is the test of all. Assumes nothing.
use Rattle.expr.proofs.Testing.{Testing}
use Rattle.expr.proofs.is_formula.Given as goal

abbrev pub invariant-loop-i : goal.invariant-loop-i
invariant-loop-i l = Testing l.nv l.token_count l.ops l.operands l.depth l.i
