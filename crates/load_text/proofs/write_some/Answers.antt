-- `load_text::write_some` meets its contract: refused, nothing left, a refusal's line, or lines. Assumes nothing.
use mathlib.Core.Path.{refl}
use Rattle.text_print.proofs.Decimals.{nothing}
use Rattle.load_text.proofs.Parts.{part_none, part_told, answers, fit-answers}
use native.Mathlib.Omega.{arith}
use Rattle.load_text.proofs.write_some.Goals as goal

pub returns-then-load-eq0 : goal.returns-then-load-eq0
returns-then-load-eq0 c = let a = c.args in record {
  short = λ h. absurd (omega (arith, h, c.if-out-lt-LINE_MAX.false));
  written = λ h. answers a.load a.out.now a.out.now _ _ (part_none a.load _ c.if-load-eq0.true) (record { wrote = nothing; load = refl });
}

pub returns-then-load-ne0 : goal.returns-then-load-ne0
returns-then-load-ne0 c = let a = c.args in
    record {
      short = λ h. absurd (omega (arith, h, c.if-out-lt-LINE_MAX.false));
      written = λ h. answers a.load a.out.now _ _ _ (part_told a.load _ (omega (arith, c.if-load-eq0.false)) (omega (arith, c.if-load-ne0.true))) (record { wrote = c.write_refusal.ensures.wrote; load = c.write_refusal.ensures.load });
    }

pub returns : goal.returns
returns c = let a = c.args in
    record {
      short = λ h. absurd (omega (arith, h, c.if-out-lt-LINE_MAX.false));
      written = λ h. fit-answers a.load a.out.now _ _ (omega (arith, c.if-load-eq0.false)) c.if-load-ne0.false c.write_fit.ensures;
    }
