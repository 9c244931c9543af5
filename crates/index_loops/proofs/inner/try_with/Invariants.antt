-- `index_loops::inner::try_with` meets its contract: the trials up to c are done. Assumes nothing.
use mathlib.Core.Bool.{false}
use Prim.Native.Nat.{◌-◌}
use Rattle.index_spec.specs.Index.{first_c, trials_up_to}
use Rattle.index_trial.specs.Steps.{Tried, SameLent}
use Rattle.index_trial.proofs.StepLaws.{tallied}
use Rattle.index_loops.proofs.inner.try_with.Given as goal

abbrev pub invariant-loop-c : goal.invariant-loop-c
invariant-loop-c l = Tried l.initial.build l.build l.n (tallied l.made false) (trials_up_to l.g l.b.0 (l.c - first_c l.g l.b.0)) × SameLent l.initial.build l.build
