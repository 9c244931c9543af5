-- `bank_phases::inner::push_stock` meets its contract: the formulas from the cursor on, pushed into the atoms so far, give the bank after the stock. Assumes nothing.
use lib.ListN.{length}
use Rattle.bank_stock.specs.Cursor.{rest_of}
use Rattle.bank_parts.specs.Lent.{arrays_of, SameSlices}
use Rattle.bank_phases.proofs.Stocking.{Stocking}
use Rattle.bank_phases.proofs.inner.push_stock.Given as goal

abbrev pub invariant-loop-setting : goal.invariant-loop-setting
invariant-loop-setting l =
    Stocking (arrays_of l.initial.bank) (arrays_of l.bank) l.work l.setting.nv l.setting.w l.setting.points l.n l.at
    × SameSlices l.initial.bank l.bank

abbrev pub decreases-loop-setting : goal.decreases-loop-setting
decreases-loop-setting l = length (rest_of l.setting.nv l.setting.w l.at)
