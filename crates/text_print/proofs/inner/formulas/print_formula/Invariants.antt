-- `text_print::inner::formulas::print_formula` meets its contract: the first i tokens are written. Assumes nothing.
use mathlib.Core.Path.{◌≡◌}
use Prim.Native.Nat.{◌+◌, ◌*◌, ◌≤◌}
use lib.ListN.{length}
use Rattle.text_print.specs.Printing.{Wrote, next_max}
use Rattle.text_print.specs.Text.{tokens_text}
use Rattle.expr.specs.Formula.{tokens}
use Rattle.text_print.proofs.inner.formulas.print_formula.Given as goal

abbrev pub invariant-loop-i : goal.invariant-loop-i
invariant-loop-i l = (length l.out ≡ length l.initial.out) × (l.p ≤ l.at + next_max * l.i) × Wrote l.initial.out l.at l.out l.p (tokens_text (tokens l.i l.ops l.operands))
