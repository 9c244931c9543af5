-- `bank_unary::inner::push_turns` meets its contract: before turn k the arrays hold the bank that k turns make of the base. Assumes nothing.
use Rattle.bank_spec.specs.Facts.{before_turn}
use Rattle.bank_parts.specs.Lent.{arrays_of, SameSlices}
use Rattle.bank_unary.specs.Phases.{Phase}
use Rattle.bank_unary.proofs.inner.push_turns.Given as goal

abbrev pub invariant-loop-k : goal.invariant-loop-k
invariant-loop-k l =
    Phase (arrays_of l.initial.bank) (arrays_of l.bank) l.work l.n (before_turn l.setting.nv l.setting.w l.setting.points l.k)
    × SameSlices l.initial.bank l.bank
