-- `text_print::inner::lines::print_lines` meets its contract: the first k lines are written. Assumes nothing.
use mathlib.Core.Path.{◌≡◌}
use Prim.Native.Nat.{◌+◌, ◌*◌, ◌≤◌}
use lib.ListN.{length}
use Rattle.text_print.specs.Printing.{Wrote, numbers_max, lines_text, numbers_at}
use Rattle.text_print.proofs.inner.lines.print_lines.Given as goal

abbrev pub invariant-loop-k : goal.invariant-loop-k
invariant-loop-k l = (length l.out ≡ length l.initial.out) × (l.p ≤ l.at + numbers_max * l.k) × Wrote l.initial.out l.at l.out l.p (lines_text (numbers_at l.numbers) l.k)
