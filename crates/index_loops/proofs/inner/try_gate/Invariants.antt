-- `index_loops::inner::try_gate` meets its contract: the trials with the atoms below b are done. Assumes nothing.
use mathlib.Core.Bool.{false}
use Rattle.index_trial.specs.Steps.{Tried, SameLent}
use Rattle.index_trial.proofs.StepLaws.{tallied}
use Rattle.index_loops.proofs.TrialLaws.{gate_up_to}
use Rattle.index_loops.proofs.inner.try_gate.Given as goal

abbrev pub invariant-loop-b : goal.invariant-loop-b
invariant-loop-b l = Tried l.initial.build l.build l.n (tallied l.made false) (gate_up_to l.initial.build.job.count l.g l.b) × SameLent l.initial.build l.build
