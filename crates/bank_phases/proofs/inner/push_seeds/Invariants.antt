-- `bank_phases::inner::push_seeds` meets its contract: before seed i the arrays hold the bank with the first i seeds pushed. Assumes nothing.
use Rattle.bank_parts.specs.Lent.{arrays_of, SameSlices}
use Rattle.bank_phases.proofs.Stocking.{Sowing}
use Rattle.bank_phases.proofs.inner.push_seeds.Given as goal

abbrev pub invariant-loop-i : goal.invariant-loop-i
invariant-loop-i l =
    Sowing (arrays_of l.initial.bank) (arrays_of l.bank) l.work l.setting.w l.turned l.seeds l.n l.i
    × SameSlices l.initial.bank l.bank
