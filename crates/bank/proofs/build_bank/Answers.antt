-- `bank::build_bank` meets its contract: a refusal leaves all as it was; else the tests that passed are what the build asks for. Assumes nothing.
use mathlib.Core.Path.{sym, ap, ◌∙◌}
use native.Mathlib.Omega.{arith}
use Rattle.bank_parts.specs.Lent.{arrays_of}
use Rattle.bank.specs.Build.{bank_refusal}
use Rattle.bank.proofs.Answering.{build-asked, build-fits, built-few, built-built}
use Rattle.bank.proofs.build_bank.Goals as goal

pub build-count-requires : goal.build-count-requires
build-count-requires c =
    let s = c.args in
    let e = ap (bank_refusal s.setting.nv s.setting.w s.setting.points s.target) (sym c.sizes_of-sizes.ensures) ∙ sym c.in_ok-check.ensures in record {
      asked = build-asked s.setting.nv s.setting.w s.setting.points s.target (arrays_of s.bank.now) s.work.now e;
      fits = build-fits s.setting.nv s.setting.w s.setting.points s.target (arrays_of s.bank.now) s.work.now e;
    }

pub overflow_cast-result : goal.overflow_cast-result
overflow_cast-result c =
    let s = c.args in
    let e = ap (bank_refusal s.setting.nv s.setting.w s.setting.points s.target) (sym c.sizes_of-sizes.ensures) ∙ sym c.in_ok-check.ensures in
    let asked = build-asked s.setting.nv s.setting.w s.setting.points s.target (arrays_of s.bank.now) s.work.now e in
    omega (arith, built-few s.setting.nv s.setting.w s.setting.points s.target (arrays_of s.bank.now) s.work.now _ _ _ asked c.build-count.ensures.phase)

pub returns-clause-built : goal.returns-clause-built
returns-clause-built c =
    let s = c.args in
    let e = ap (bank_refusal s.setting.nv s.setting.w s.setting.points s.target) (sym c.sizes_of-sizes.ensures) ∙ sym c.in_ok-check.ensures in
    built-built s.setting.nv s.setting.w s.setting.points s.target (arrays_of s.bank.now) s.work.now _ _ _ (sym e) c.build-count.ensures.phase
