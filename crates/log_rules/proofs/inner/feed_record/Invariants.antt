-- `log_rules::inner::feed_record` meets its contract: rule after rule, over a list of one record. Assumes nothing.
use Rattle.limits.specs.Refusal.{refusal_of}
use mathlib.Core.Path.{◌≡◌}
use mathlib.Core.List.{[], ◌∷◌}
use lib.ListN.{length}
use Rattle.log_rules.specs.Lent.{rules_of}
use Rattle.log_rules.proofs.Feeding.{Went}
use Rattle.log_rules.proofs.inner.feed_record.Given as goal

abbrev pub invariant-loop-i : goal.invariant-loop-i
invariant-loop-i l =
    (length l.seen ≡ length l.initial.seen) × Went l.nv l.w (rules_of l.rules) l.words l.initial.seen 1 l.i (refusal_of l.tested) l.seen (l.rank ∷ [])
