-- `bank_phases::inner::build` meets its contract: the three phases one after the other, each over what the one before it left. Assumes nothing.
use Rattle.bank_spec.specs.Facts.{base_of}
use Rattle.bank_parts.specs.Lent.{arrays_of}
use Rattle.bank_unary.specs.Phases.{turned_of}
use Rattle.bank_unary.proofs.Phasing.{holding}
use Rattle.bank_phases.proofs.Stocking.{build_on}
use Rattle.bank_phases.proofs.inner.build.Goals as goal

pub push_stock-base-requires : goal.push_stock-base-requires
push_stock-base-requires c =
    let s = c.args in
    let old = arrays_of s.bank.now in record {
      asked = c.requires.asked;
      ready = c.start.ensures.ready old c.requires.fits.room;
    }

pub push_turns-turned-requires : goal.push_turns-turned-requires
push_turns-turned-requires c =
    let s = c.args in
    let old = arrays_of s.bank.now in record {
      asked = c.requires.asked;
      holding = holding old _ _ _ (base_of s.setting.nv s.setting.w s.setting.points) c.push_stock-base.ensures.phase;
    }

pub push_seeds-requires : goal.push_seeds-requires
push_seeds-requires c =
    let s = c.args in record {
      asked = c.requires.asked;
      holding = holding _ _ _ _ (turned_of s.setting.nv s.setting.w s.setting.points) c.push_turns-turned.ensures.phase;
    }

pub returns-clause-phase : goal.returns-clause-phase
returns-clause-phase c =
    let s = c.args in
    let old = arrays_of s.bank.now in
    build_on s.setting.nv s.setting.w s.setting.points s.target old _ _ _ _ _ _ _ _ _ c.push_stock-base.ensures.phase c.push_turns-turned.ensures.phase c.push_seeds.ensures.phase
