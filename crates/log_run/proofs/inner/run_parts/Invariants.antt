-- `log_run::inner::run_parts` meets its contract: part after part. Assumes nothing.
use mathlib.Core.Path.{◌≡◌}
use Prim.Native.Nat.{◌-◌, ◌≤◌, ◌<◌}
use lib.ListN.{length}
use Rattle.log_rules.specs.Lent.{rules_of}
use Rattle.log_rules.specs.Steps.{formulas_refusal}
use Rattle.log_run.specs.Step.{log_after}
use Rattle.log_run.specs.Steps.{open_log}
use Rattle.log_run.proofs.inner.run_parts.Given as goal

abbrev pub invariant-loop-at : goal.invariant-loop-at
invariant-loop-at l = (l.at ≤ l.records.n) × ((length l.seen ≡ length l.initial.seen) × ((0 < l.at → formulas_refusal l.records.nv (rules_of l.rules) l.rules.count ≡ 0) × (open_log l.seen l.now ≡ log_after l.records.nv l.records.w (rules_of l.rules) l.records.words.now (open_log l.initial.seen l.initial.now) l.at)))

abbrev pub decreases-loop-at : goal.decreases-loop-at
decreases-loop-at l = l.records.n - l.at
