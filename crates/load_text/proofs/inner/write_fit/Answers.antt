-- `load_text::inner::write_fit` meets its contract: a load that may be drawn is written. Assumes nothing.
use mathlib.Core.Path.{sym, ◌∙◌}
use Rattle.limits.proofs.Answers.{number-positive}
use Rattle.text_print.proofs.Decimals.{nothing}
use Rattle.load_draw.proofs.Refusing.{ready}
use Rattle.load_text.proofs.Refusing.{draw_none, load-none}
use native.Mathlib.Omega.{arith}
use borrow.Author.Rules.{rules}
use Rattle.load_text.proofs.inner.write_fit.Goals as goal

pub returns-in-Err : goal.returns-in-Err
returns-in-Err c = let l = c.args.load in
    record {
      lines = λ e.
          let none = c.in-Err.ensures ∙ draw_none l.nv l.w l.limit _ _ e (search rules) (search rules) in
          absurd (let some = number-positive c.in-Err.field-0 in omega (arith, none, some));
      nothing = λ h. record { wrote = nothing; load = c.bare_load.ensures };
    }

pub write_lines-requires : goal.write_lines-requires
write_lines-requires c = let l = c.args.load in
    (c.requires, ready l.nv l.w l.limit _ _ (sym c.in_default.ensures))

pub returns : goal.returns
returns c = let l = c.args.load in
    record {
      lines = λ e. c.write_lines.ensures;
      nothing = λ h. absurd (omega (arith, h, load-none l.nv l.w l.limit _ _ (ready l.nv l.w l.limit _ _ (sym c.in_default.ensures))));
    }
