-- `log_run::inner::note_all` meets its contract: record after record. Assumes nothing.
use mathlib.Core.Path.{◌≡◌}
use Prim.Native.Nat.{ℕ}
use lib.ListN.{get_or}
use Rattle.log_run.specs.Steps.{noted_over}
use Rattle.log_run.proofs.inner.note_all.Given as goal

abbrev pub invariant-loop-k : goal.invariant-loop-k
invariant-loop-k l = l.s ≡ noted_over (λ (t : ℕ). get_or l.fired t 0) l.initial.s l.k
