-- `index_loops::inner::try_gates` meets its contract: the trials of the gates passed are done. Assumes nothing.
use mathlib.Core.Bool.{false}
use Rattle.index_trial.specs.Steps.{Tried, SameLent}
use Rattle.index_trial.proofs.StepLaws.{tallied}
use Rattle.index_loops.proofs.TrialLaws.{gates_up_to}
use Rattle.index_loops.proofs.inner.try_gates.Given as goal

abbrev pub invariant-loop-g : goal.invariant-loop-g
invariant-loop-g l = Tried l.initial.build l.build 0 (tallied l.made false) (gates_up_to l.initial.build.job.count l.g-index) × SameLent l.initial.build l.build
