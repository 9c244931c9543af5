-- `rule_run::inner::feed_row` meets its contract: one record after the other. Assumes nothing.
use Rattle.std.proofs.Common.{◌≡◌, ℕ, ◌+◌, ◌<◌, List, length, get_or}
use Rattle.rule_run.specs.Window.{nonzero}
use Rattle.rule_run.specs.Steps.{Fed}
use Rattle.rule_run.proofs.inner.feed_row.Given as goal

abbrev pub invariant-loop-j : goal.invariant-loop-j
invariant-loop-j l =
    (length l.answers ≡ length l.initial.answers) × ((mark : ℕ → ℕ) (s : ℕ) (old : List ℕ) → ((i : ℕ) → i < 16 → mark (l.at + i) ≡ nonzero (get_or l.row i 0))
    → Fed mark s l.m l.window old l.at l.initial.answers l.past → Fed mark s l.m l.window old (l.at + l.j) l.answers l.bits)
