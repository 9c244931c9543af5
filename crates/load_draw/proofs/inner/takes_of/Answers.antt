-- `load_draw::inner::takes_of` meets its contract: leaves, gates, and Not and Neg. Assumes nothing.
use mathlib.Core.Path.{sym}
use Rattle.load_draw.proofs.Picking.{takes_leaf, takes-gate, takes_sign}
use native.Mathlib.Omega.{arith}
use Rattle.load_draw.proofs.inner.takes_of.Goals as goal

pub returns-then-o-lt2 : goal.returns-then-o-lt2
returns-then-o-lt2 c = sym (takes_leaf c.args.o (omega arith))

pub returns-then-o-lt7 : goal.returns-then-o-lt7
returns-then-o-lt7 c = sym (takes-gate c.args.o (omega arith) (omega arith))

pub returns : goal.returns
returns c = sym (takes_sign c.args.o (omega arith) (omega arith))
