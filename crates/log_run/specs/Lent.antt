-- The closing log over rules and records as a call is lent them: the definitions of specs/Step and specs/Steps, of the fields. Assumes nothing.
use Rattle.std.specs.Prelude.{List}
use Prim.Native.Nat.{ℕ}
use Rattle.rule_run.specs.declared.Records.{Records}
use Rattle.log_rules.specs.declared.LentRules.{LentRules}
use Rattle.log_rules.specs.Lent.{rules_of}
use Rattle.log_run.specs.declared.Shown.{Shown}
use Rattle.log_run.specs.declared.Log.{Log}
use Rattle.log_run.specs.Step.{Reply, logged}
use Rattle.log_run.specs.Steps.{Took, Takes}

-- what `run_log` answers
abbrev pub logged_by : LentRules → Log → Records → Reply
logged_by r l x = logged x.nv x.w (rules_of r) l x.n x.words.now

-- what a part of a run takes: all the records
abbrev pub TakesLent : LentRules → Records → List ℕ → Shown → List ℕ → Took → Type 0
TakesLent r x before shown after took = Takes x.nv x.w (rules_of r) x.words.now x.n before shown after took
