-- `search_product_trial::inner::may_fit` meets its contract: a word whose equation has no solution is found, or each word passed has one. Assumes nothing.
use mathlib.Core.Path.{sym, ◌∙◌}
use native.Mathlib.Omega.{arith}
use Rattle.limits.proofs.Refusals.{true_not_false}
use Rattle.search_product_trial.proofs.Trials.{fits-never}
use Rattle.search_product_trial.proofs.inner.may_fit.Goals as goal

pub returns-then-not-is_solvable : goal.returns-then-not-is_solvable
returns-then-not-is_solvable c =
    let l = c.loop-k in
    let a = c.args in
    record {
      never = λ _ ys b. fits-never a.w a.target.now a.xs.now ys a.a b c.requires.1 l.k c.reduce-p.result (omega arith) c.reduce-p.ensures (sym c.is_solvable.ensures ∙ c.if-not-is_solvable.true);
      each = λ e. absurd (true_not_false (sym e));
    }
