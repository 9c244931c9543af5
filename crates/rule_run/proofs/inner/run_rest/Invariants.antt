-- `rule_run::inner::run_rest` meets its contract: one record after the other. Assumes nothing.
use Rattle.std.proofs.Common.{◌≡◌, ℕ, List, length}
use Rattle.rule_run.specs.Steps.{Fed}
use Rattle.rule_run.specs.Lent.{marks}
use Rattle.rule_run.proofs.inner.run_rest.Given as goal

abbrev pub invariant-loop-k : goal.invariant-loop-k
invariant-loop-k l =
    (length l.answers ≡ length l.initial.answers) × ((s : ℕ) (old : List ℕ) → Fed (marks l.rule l.records) s l.rule.m l.rule.window old l.at l.initial.answers l.past
    → Fed (marks l.rule l.records) s l.rule.m l.rule.window old l.k l.answers l.bits)
