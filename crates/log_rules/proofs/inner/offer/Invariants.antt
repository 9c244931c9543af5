-- `log_rules::inner::offer` meets its contract: place after place. Assumes nothing.
use Prim.Native.Nat.{ℕ}
use mathlib.Core.Bool.{cond}
use lib.Dec.{eqb}
use lib.ListN.{get_or}
use Rattle.log_rules.specs.Firing.{lesser}
use Rattle.log_rules.proofs.Feeding.{Mapped}
use Rattle.log_rules.proofs.inner.offer.Given as goal

abbrev pub invariant-loop-k : goal.invariant-loop-k
invariant-loop-k l = Mapped (λ (t x : ℕ). cond (eqb (get_or l.answers t 0) 1) (lesser x l.rank) x) l.initial.fired l.fired l.k
