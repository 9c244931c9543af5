-- `load_draw::draw_formula` meets its contract: refused or drawn. Assumes nothing.
use mathlib.Core.Path.{sym}
use Rattle.load_draw.proofs.Refusing.{ready}
use Rattle.load_draw.proofs.draw_formula.Goals as goal

pub draw-requires : goal.draw-requires
draw-requires c = let a = c.args in ready a.nv a.w a.limit a.ops.now a.operands.now (sym c.in_ok-check.ensures)
