-- `rule_run::inner::run_rows` meets its contract: sixteen after sixteen. Assumes nothing.
use Rattle.std.proofs.Common.{◌≡◌, ℕ, ◌*◌, List, length}
use Rattle.rule_run.specs.Steps.{Fed}
use Rattle.rule_run.specs.Lent.{marks}
use Rattle.rule_run.proofs.inner.run_rows.Given as goal

abbrev pub invariant-loop-k : goal.invariant-loop-k
invariant-loop-k l =
    (length l.stack ≡ 1024) × ((length l.answers ≡ length l.initial.answers) × ((s : ℕ) (old : List ℕ) → Fed (marks l.rule l.records) s l.rule.m l.rule.window old 0 l.initial.answers l.past
    → Fed (marks l.rule l.records) s l.rule.m l.rule.window old (16 * l.k) l.answers l.bits))
