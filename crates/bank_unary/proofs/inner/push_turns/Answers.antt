-- `bank_unary::inner::push_turns` meets its contract: before turn k the arrays hold the bank that k turns make of the base. Assumes nothing.
use mathlib.Core.Path.{◌≡◌, subst}
use Prim.Native.Nat.{ℕ}
use native.Mathlib.Omega.{arith}
use lib.ListN.{length}
use Rattle.bank_spec.specs.Facts.{before_turn, base_of}
use Rattle.bank_spec.proofs.Banks.{base_few}
use Rattle.bank_parts.specs.Lent.{arrays_of}
use Rattle.bank_parts.proofs.Lending.{same-start, same-on}
use Rattle.bank_unary.specs.Phases.{Phase}
use Rattle.bank_unary.proofs.Phasing.{holding}
use Rattle.bank_unary.proofs.Turning.{turns-first, turns-further}
use Rattle.bank_unary.proofs.inner.push_turns.Goals as goal

pub loop-k-init : goal.loop-k-init
loop-k-init c =
    let s = c.args in
    let old = arrays_of s.bank.now in
    (turns-first s.setting.nv s.setting.w s.setting.points old old s.work.now s.base 0 c.requires.holding, same-start _)

pub overflow_cast-slot : goal.overflow_cast-slot
overflow_cast-slot c =
    let s = c.args in
    omega (arith, c.requires.holding.bank.count, base_few s.setting.nv s.setting.w s.setting.points c.requires.asked.most)

pub push_turn-n-requires : goal.push_turn-n-requires
push_turn-n-requires c =
    let s = c.args in
    let old = arrays_of s.bank.now in
    let l = c.loop-k in
    let now = arrays_of l.bank in
    record {
      slot_in_bounds = (omega (arith, c.requires.holding.bank.count), c.requires.asked);
      holding = holding old now l.work l.n (before_turn s.setting.nv s.setting.w s.setting.points l.k) l.invariant.0;
    }

pub loop-k-preserved : goal.loop-k-preserved
loop-k-preserved c =
    let s = c.args in
    let old = arrays_of s.bank.now in
    let l = c.loop-k in
    let now = arrays_of l.bank in
    (turns-further s.setting.nv s.setting.w s.setting.points old now l.work l.n l.k _ _ _ l.invariant.0 c.push_turn-n.ensures.phase, same-on l.invariant.1 c.push_turn-n.ensures.same)

pub returns-clause-phase : goal.returns-clause-phase
returns-clause-phase c =
    let s = c.args in
    let old = arrays_of s.bank.now in
    let l = c.loop-k in
    let now = arrays_of l.bank in
    let e : l.k ≡ length (base_of s.setting.nv s.setting.w s.setting.points) = omega (arith, c.requires.holding.bank.count) in
    subst (λ (m : ℕ). Phase old now l.work l.n (before_turn s.setting.nv s.setting.w s.setting.points m)) e l.invariant.0
