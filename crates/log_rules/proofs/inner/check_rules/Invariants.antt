-- `log_rules::inner::check_rules` meets its contract: rule after rule. Assumes nothing.
use Rattle.limits.specs.Refusal.{refusal_of}
use mathlib.Core.Path.{◌≡◌}
use lib.ListN.{length}
use Rattle.log_rules.specs.Lent.{rules_of}
use Rattle.log_rules.specs.Steps.{formulas_refusal}
use Rattle.log_rules.proofs.inner.check_rules.Given as goal

abbrev pub invariant-loop-i : goal.invariant-loop-i
invariant-loop-i l = (length l.none ≡ 1) × (refusal_of l.tested ≡ formulas_refusal l.records.nv (rules_of l.rules) l.i)
