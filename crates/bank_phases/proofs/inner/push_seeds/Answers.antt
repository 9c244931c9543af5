-- `bank_phases::inner::push_seeds` meets its contract: before seed i the arrays hold the bank with the first i seeds pushed. Assumes nothing.
use mathlib.Core.Path.{◌≡◌}
use native.Mathlib.Omega.{arith}
use borrow.Author.Rules.{rules}
use lib.ListN.{length}
use Rattle.bank_parts.specs.Lent.{arrays_of}
use Rattle.bank_parts.proofs.Lending.{same-start, same-on}
use Rattle.bank_phases.proofs.Stocking.{turned_few, sowing_none, sowing_more, sowing_done}
use Rattle.bank_phases.proofs.inner.push_seeds.Goals as goal

pub loop-i-init : goal.loop-i-init
loop-i-init c =
    let s = c.args in
    let old = arrays_of s.bank.now in
    (sowing_none s.setting.w s.turned c.seeds_of-seeds.result old old s.work.now 0 0 c.requires.holding.ready, same-start _)

pub push-n-requires : goal.push-n-requires
push-n-requires c =
    let s = c.args in
    let old = arrays_of s.bank.now in
    let l = c.loop-i in
    let few = turned_few s.setting.nv s.setting.w s.setting.points old s.work.now s.turned c.requires.asked c.requires.holding in record {
      n_bound = omega (arith, few, l.invariant.0.few, c.seeds_of-seeds.ensures.few);
      ready = l.invariant.0.ready;
    }

pub loop-i-preserved : goal.loop-i-preserved
loop-i-preserved c =
    let s = c.args in
    let old = arrays_of s.bank.now in
    let l = c.loop-i in
    let now = arrays_of l.bank in
    let seeds = c.seeds_of-seeds.result in
    let long : length seeds.words ≡ 8 = search rules in
    (sowing_more s.setting.w s.turned seeds old now l.work l.n l.i _ _ _ _ (omega (arith, long, c.seeds_of-seeds.ensures.few)) c.constant-e.ensures c.push-n.ensures.pushed l.invariant.0, same-on l.invariant.1 c.push-n.ensures.same)

pub returns-clause-phase : goal.returns-clause-phase
returns-clause-phase c =
    let s = c.args in
    let old = arrays_of s.bank.now in
    let l = c.loop-i in
    let now = arrays_of l.bank in
    let seeds = c.seeds_of-seeds.result in
    let long : length s.setting.points ≡ 16 = search rules in
    let e : l.i ≡ seeds.count = omega arith in
    sowing_done s.setting.w s.turned seeds old now l.work l.n l.i s.setting.nv s.setting.points s.target s.work.now c.seeds_of-seeds.ensures e long c.requires.holding l.invariant.0
