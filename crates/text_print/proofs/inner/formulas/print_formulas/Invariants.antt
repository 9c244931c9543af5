-- `text_print::inner::formulas::print_formulas` meets its contract: the first k formulas are written. Assumes nothing.
use mathlib.Core.Path.{◌≡◌}
use Prim.Native.Nat.{◌+◌, ◌*◌, ◌≤◌}
use lib.ListN.{length}
use Rattle.text_print.specs.Printing.{Wrote, formula_max, lines_text, formula_at}
use Rattle.text_print.proofs.inner.formulas.print_formulas.Given as goal

abbrev pub invariant-loop-k : goal.invariant-loop-k
invariant-loop-k l = (length l.out ≡ length l.initial.out) × (l.p ≤ l.at + formula_max * l.k) × Wrote l.initial.out l.at l.out l.p (lines_text (formula_at l.lengths l.ops l.operands) l.k)
