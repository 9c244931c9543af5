-- `bank_lookup::least_slot` meets its contract: the slots passed have other rows. Assumes nothing.
use mathlib.Core.Path.{sym, ◌∙◌}
use Prim.Native.Nat.{◌-◌}
use native.Mathlib.Omega.{arith}
use Rattle.bank_lookup.proofs.Least.{least_here, least-later, least-none}
use Rattle.bank_lookup.proofs.least_slot.Goals as goal

pub returns-then-same_row : goal.returns-then-same_row
returns-then-same_row c =
    let a = c.args in
    sym (sym c.loop-s.invariant ∙ least_here a.rows.now a.row c.loop-s.s a.count (omega arith) (sym c.same_row.ensures ∙ c.if-same_row.true))

pub loop-s-preserved : goal.loop-s-preserved
loop-s-preserved c =
    let a = c.args in
    sym (least-later a.rows.now a.row c.loop-s.s a.count (omega arith) (sym c.same_row.ensures ∙ c.if-same_row.false)) ∙ c.loop-s.invariant

pub returns : goal.returns
returns c =
    let a = c.args in
    sym (sym c.loop-s.invariant ∙ least-none a.rows.now a.row c.loop-s.s (a.count - c.loop-s.s) (omega arith))
