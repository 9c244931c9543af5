-- `load_draw::inner::pick_above_one` meets its contract: the choices with one value. Assumes nothing.
use mathlib.Core.Path.{ap}
use Prim.Native.Nat.{ℕ}
use Rattle.load_draw.specs.Draw.{picked_by}
use Rattle.load_draw.proofs.Picking.{picked_run, picked_low, picked_high, choices-last}
use native.Mathlib.Omega.{arith}
use Rattle.load_draw.proofs.inner.pick_above_one.Goals as goal

pub returns-then-rest-eq0 : goal.returns-then-rest-eq0
returns-then-rest-eq0 c = let a = c.args in omega (arith, ap (λ (r : ℕ). picked_by 1 r a.word) c.if-rest-eq0.true, picked_run 1 0 a.word 7 2 (omega arith) choices-last)

pub returns-then-k-lt2 : goal.returns-then-k-lt2
returns-then-k-lt2 c = let a = c.args in omega (arith, picked_low a.rest a.word (omega arith) (omega arith))

pub returns : goal.returns
returns c = let a = c.args in omega (arith, picked_high a.rest a.word (omega arith) (omega arith))
