-- `load_draw::inner::pick` meets its contract: each depth has its run of choices. Assumes nothing.
use mathlib.Core.Path.{sym, ap, ◌∙◌}
use Prim.Native.Nat.{ℕ}
use Rattle.load_draw.specs.Draw.{picked_by}
use Rattle.load_draw.proofs.Picking.{picked_run, choices-none, choices-all, choices-narrow, choices-gates}
use native.Mathlib.Omega.{arith}
use Rattle.load_draw.proofs.inner.pick.Goals as goal

pub returns-then-depth-eq0 : goal.returns-then-depth-eq0
returns-then-depth-eq0 c = let a = c.args in omega (arith, ap (λ (d : ℕ). picked_by d a.rest a.word) c.if-depth-eq0.true, picked_run 0 a.rest a.word 0 2 (omega arith) (choices-none a.rest))

pub returns-then-depth-eq1 : goal.returns-then-depth-eq1
returns-then-depth-eq1 c = let a = c.args in c.pick_above_one.ensures ∙ ap (λ (d : ℕ). picked_by d a.rest a.word) (sym c.if-depth-eq1.true)

pub returns-then-depth-rest : goal.returns-then-depth-rest
returns-then-depth-rest c = let a = c.args in omega (arith, picked_run a.depth a.rest a.word 0 9 (omega arith) (choices-all a.depth a.rest (omega arith) (omega arith)))

pub returns-then-depth-rest-2 : goal.returns-then-depth-rest-2
returns-then-depth-rest-2 c = let a = c.args in omega (arith, picked_run a.depth a.rest a.word 2 7 (omega arith) (choices-narrow a.depth a.rest (omega arith) (omega arith)))

pub returns : goal.returns
returns c = let a = c.args in omega (arith, picked_run a.depth a.rest a.word 2 5 (omega arith) (choices-gates a.depth a.rest (omega arith) (omega arith)))
