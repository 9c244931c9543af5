-- `load_text::start` meets its contract: what the end of the reading says chooses the load. Assumes nothing.
use mathlib.Core.Path.{refl, sym, ◌∙◌}
use native.Mathlib.Omega.{arith}
use Rattle.limits.proofs.Answers.{number-positive}
use Rattle.load_text.proofs.Starting.{start-refused, start-load}
use Rattle.load_text.proofs.start.Goals as goal

pub returns-in-Err : goal.returns-in-Err
returns-in-Err c = λ text few reads. c.bare_load-in-Err.ensures
    ∙ start-refused text _ ((c.in-Some.ensures text few reads).given _ refl) _ (c.from-in-Err.ensures ∙ c.in-Err.ensures) (omega (arith, c.from-in-Err.ensures, number-positive c.in-Err.refusal))

pub returns : goal.returns
returns c = λ text few reads. c.load_of.ensures
    ∙ start-load text _ ((c.in-Some.ensures text few reads).given _ refl) (sym c.in_default-checked.ensures)
