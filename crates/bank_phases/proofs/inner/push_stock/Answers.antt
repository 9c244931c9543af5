-- `bank_phases::inner::push_stock` meets its contract: the formulas from the cursor on, pushed into the atoms so far, give the bank after the stock. Assumes nothing.
use mathlib.Core.Path.{sym, ◌∙◌}
use Rattle.bank_parts.specs.Lent.{arrays_of}
use Rattle.bank_parts.proofs.Lending.{same-start, same-on}
use Rattle.bank_phases.proofs.Stocking.{stocking_none, stocking_few, stocking_less, stocking_more, stocking_done}
use Rattle.bank_phases.proofs.inner.push_stock.Goals as goal

pub loop-setting-init : goal.loop-setting-init
loop-setting-init c =
    let s = c.args in
    let old = arrays_of s.bank.now in
    (stocking_none old s.work.now s.setting.nv s.setting.w s.setting.points _ c.requires.asked c.first-at.ensures c.requires.ready, same-start _)

pub push-n-requires : goal.push-n-requires
push-n-requires c =
    let l = c.loop-setting in
    let now = arrays_of l.bank in
    let s = c.args in
    let old = arrays_of s.bank.now in record {
      n_bound = stocking_few old now l.work s.setting.nv s.setting.w s.setting.points l.n l.at l.invariant.0;
      ready = l.invariant.0.ready;
    }

pub loop-setting-smaller : goal.loop-setting-smaller
loop-setting-smaller c =
    let l = c.loop-setting in
    let now = arrays_of l.bank in
    let s = c.args in
    let old = arrays_of s.bank.now in
    let d = sym c.is_done.ensures ∙ c.loop-setting-test.true in
    stocking_less old now l.work s.setting.nv s.setting.w s.setting.points l.n l.at _ d l.invariant.0.stands c.next-at.ensures

pub loop-setting-preserved : goal.loop-setting-preserved
loop-setting-preserved c =
    let l = c.loop-setting in
    let now = arrays_of l.bank in
    let s = c.args in
    let old = arrays_of s.bank.now in
    let d = sym c.is_done.ensures ∙ c.loop-setting-test.true in
    (stocking_more old now l.work s.setting.nv s.setting.w s.setting.points l.n l.at _ _ _ _ _ d c.entry_at-e.ensures c.next-at.ensures c.push-n.ensures.pushed l.invariant.0, same-on l.invariant.1 c.push-n.ensures.same)

pub returns-clause-phase : goal.returns-clause-phase
returns-clause-phase c =
    let l = c.loop-setting in
    let now = arrays_of l.bank in
    let s = c.args in
    let old = arrays_of s.bank.now in
    stocking_done old now l.work s.setting.nv s.setting.w s.setting.points l.n l.at (sym c.is_done.ensures ∙ c.loop-setting-test.false) l.invariant.0
