-- `load_draw::inner::draw_tokens` meets its contract: token after token, from the left. Assumes nothing.
use mathlib.Core.Path.{◌≡◌}
use lib.ListN.{length}
use Rattle.load_draw.proofs.Drawing.{Stage}
use Rattle.load_draw.proofs.inner.draw_tokens.Given as goal

abbrev pub invariant-loop-i : goal.invariant-loop-i
invariant-loop-i l = ((length l.ops ≡ length l.initial.ops) × (length l.operands ≡ length l.initial.operands)) × Stage l.nv l.w l.count l.state l.initial.ops l.initial.operands l.ops l.operands l.s l.depth l.i
