-- `bank_lookup::least_slot` meets its contract: the slots passed have other rows. Assumes nothing.
use mathlib.Core.Path.{◌≡◌}
use Prim.Native.Nat.{◌-◌}
use Rattle.bank_lookup.specs.Lookup.{least_from}
use Rattle.bank_lookup.proofs.least_slot.Given as goal

abbrev pub invariant-loop-s : goal.invariant-loop-s
invariant-loop-s l = least_from l.rows l.row l.s (l.count - l.s) ≡ least_from l.rows l.row 0 l.count
