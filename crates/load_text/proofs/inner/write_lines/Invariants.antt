-- `load_text::inner::write_lines` meets its contract: line after line. Assumes nothing.
use mathlib.Core.Path.{◌≡◌}
use Prim.Native.Nat.{◌+◌}
use lib.ListN.{length}
use Rattle.load_text.specs.Writing.{line_max}
use Rattle.load_text.proofs.Lines.{Going}
use Rattle.load_text.proofs.inner.write_lines.Given as goal

abbrev pub invariant-loop-p : goal.invariant-loop-p
invariant-loop-p l = (l.last + line_max ≡ length l.initial.out) × ((length l.ops ≡ length l.initial.ops) × (length l.operands ≡ length l.initial.operands)) × Going l.load l.initial.out l.out l.ops l.operands l.state l.left l.p

abbrev pub decreases-loop-p : goal.decreases-loop-p
decreases-loop-p l = l.left
