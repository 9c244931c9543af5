-- `log_rules::inner::feed_rules` meets its contract: rule after rule. Assumes nothing.
use Rattle.limits.specs.Refusal.{refusal_of}
use mathlib.Core.Path.{◌≡◌}
use lib.ListN.{length}
use Rattle.log_rules.specs.Lent.{rules_of}
use Rattle.log_rules.proofs.Feeding.{Went}
use Rattle.log_rules.proofs.inner.feed_rules.Given as goal

abbrev pub invariant-loop-i : goal.invariant-loop-i
invariant-loop-i l = (length l.answers ≡ length l.initial.answers) × ((length l.fired ≡ length l.initial.fired) × ((length l.seen ≡ length l.initial.seen) × Went l.records.nv l.records.w (rules_of l.rules) l.records.words.now l.initial.seen l.records.n l.i (refusal_of l.tested) l.seen l.fired))
