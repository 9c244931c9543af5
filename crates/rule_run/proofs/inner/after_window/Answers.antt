-- `rule_run::inner::after_window` meets its contract: a number stays, and 10 comes after it. Assumes nothing.
use Rattle.std.proofs.Common.{ℕ, sym, refl, ap, ◌∙◌}
use Rattle.limits.specs.Refusal.{says, refuse, outcome}
use Rattle.limits.proofs.Refusals.{refused_here, refused-later, outcome-word}
use Rattle.rule_run.specs.Window.{bad_window}
use Rattle.rule_run.proofs.Single.{number_stays, number-none}
use Rattle.rule_run.proofs.inner.after_window.Goals as goal

pub returns-in-Err : goal.returns-in-Err
returns-in-Err c =
    let a = c.args in
    λ n v e. ap says c.in-Err.is ∙ number_stays _ n v (refuse (bad_window a.m a.window) 10 0) (sym (ap says c.in-Err.is) ∙ e)

pub returns-then-bad_window : goal.returns-then-bad_window
returns-then-bad_window c =
    let a = c.args in
    λ n v e.
    ap (λ (k : ℕ). outcome k v) (sym (number-none _ n v (refuse (bad_window a.m a.window) 10 0) (sym (ap says c.in-Ok.is) ∙ e) ∙ refused_here 10 0 (sym c.bad_window.ensures ∙ c.if-bad_window.true)))

pub returns-else-bad_window : goal.returns-else-bad_window
returns-else-bad_window c =
    let a = c.args in
    λ n v e.
    let w = sym (ap says c.in-Ok.is) ∙ e in
    e ∙ ap (λ (k : ℕ). outcome k v) ((outcome-word _ n v w).0 ∙ sym (number-none _ n v (refuse (bad_window a.m a.window) 10 0) w ∙ refused-later 10 (sym c.bad_window.ensures ∙ c.if-bad_window.false) refl))
