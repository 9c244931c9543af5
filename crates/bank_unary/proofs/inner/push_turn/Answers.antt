-- `bank_unary::inner::push_turn` meets its contract: what is loaded is the atom at the slot, and the two pushes are `turn`'s. Assumes nothing.
use native.Mathlib.Omega.{arith}
use Rattle.bank_parts.specs.Lent.{arrays_of}
use Rattle.bank_unary.proofs.Turning.{turn-slot, turn-room, turn_extends, turned}
use Rattle.bank_unary.proofs.inner.push_turn.Goals as goal

pub load_entry-e-requires : goal.load_entry-e-requires
load_entry-e-requires c =
    let s = c.args in
    (turn-slot s.setting.nv s.setting.w s.setting.points s.slot.0 c.requires.slot_in_bounds.0 c.requires.slot_in_bounds.1, c.requires.holding.ready.room)

pub under_unary-negated-requires : goal.under_unary-negated-requires
under_unary-negated-requires c =
    let s = c.args in
    let old = arrays_of s.bank.now in
    turn_extends s.setting.nv s.setting.w s.setting.points s.slot.0 c.requires.slot_in_bounds.0 c.requires.slot_in_bounds.1 old s.work.now s.n c.requires.holding _ c.load_entry-e.ensures

pub under_unary-inverted-requires : goal.under_unary-inverted-requires
under_unary-inverted-requires c =
    let s = c.args in
    let old = arrays_of s.bank.now in
    turn_extends s.setting.nv s.setting.w s.setting.points s.slot.0 c.requires.slot_in_bounds.0 c.requires.slot_in_bounds.1 old s.work.now s.n c.requires.holding _ c.load_entry-e.ensures

pub push-more-requires : goal.push-more-requires
push-more-requires c =
    let s = c.args in
    let old = arrays_of s.bank.now in
    let room = turn-room s.setting.nv s.setting.w s.setting.points s.slot.0 c.requires.slot_in_bounds.0 c.requires.slot_in_bounds.1 old s.work.now s.n c.requires.holding in record {
      n_bound = omega (arith, room);
      ready = c.requires.holding.ready;
    }

pub push-requires : goal.push-requires
push-requires c =
    let s = c.args in
    let old = arrays_of s.bank.now in
    let room = turn-room s.setting.nv s.setting.w s.setting.points s.slot.0 c.requires.slot_in_bounds.0 c.requires.slot_in_bounds.1 old s.work.now s.n c.requires.holding in record {
      n_bound = omega (arith, room, c.push-more.ensures.pushed.few);
      ready = c.push-more.ensures.pushed.ready;
    }

pub returns-clause-phase : goal.returns-clause-phase
returns-clause-phase c =
    let s = c.args in
    let old = arrays_of s.bank.now in
    turned s.setting.nv s.setting.w s.setting.points s.slot.0 c.requires.slot_in_bounds.0 c.requires.slot_in_bounds.1 old s.work.now s.n c.requires.holding _ c.load_entry-e.ensures _ _ _ _ _ _ _ _ c.under_unary-negated.ensures c.under_unary-inverted.ensures c.push-more.ensures.pushed c.push.ensures.pushed
