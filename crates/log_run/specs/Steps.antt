-- What the contracts of src/inner.rt cite, beside specs/Step. Assumes nothing.
use Rattle.std.specs.Prelude.{◌≡◌, true, List, ℕ, zero, suc, Result, Ok, Err}
use Rattle.limits.specs.declared.Refusal.{Refusal}
use Rattle.limits.specs.Refusal.{unless_refused, number_of}
use Rattle.log_rules.specs.Rules.{Rules}
use Rattle.log_rules.specs.Steps.{formulas_refusal}
use Rattle.log_run.specs.declared.Shown.{Shown}
use Rattle.log_run.specs.declared.Log.{Log}
use Rattle.log_run.specs.Step.{Reply, noted, log_after}

-- an open sounding
abbrev pub open_log : List ℕ → Shown → Log
open_log windows shown = record { windows = windows; shown = shown; begun = true }

-- what is shown after some records, and the number that refuses them, 0 for none; beside one what was shown before
pub record Took : Type 0 where
  pub shown : Shown
  pub refusal : ℕ

abbrev pub took_of : Shown → Result Shown Refusal → Took
took_of s (Ok t) = record { shown = t; refusal = 0 }
took_of s (Err r) = record { shown = s; refusal = number_of r }

-- what a part of a run takes: n records, from these windows and what was shown to those and to what is shown then, unless a rule is refused
pub record Takes (nv w : ℕ) (rules : Rules) (records : List ℕ) (n : ℕ) (before : List ℕ) (shown : Shown) (after : List ℕ) (took : Took) : Type 0 where
  pub number : took.refusal ≡ formulas_refusal nv rules rules.count
  pub log : took.refusal ≡ 0 → open_log after took.shown ≡ log_after nv w rules records (open_log before shown) n

-- what is shown after n records; given is the least rank that fires on each
unfoldable pub noted_over : (ℕ → ℕ) → Shown → ℕ → Shown
noted_over rank s zero = s
noted_over rank s (suc n) = noted (rank n) (noted_over rank s n)

-- the answer of a call that took x and leaves these windows; beside a refusal the log as it was
abbrev pub took_says : Log → List ℕ → Took → Reply
took_says l after x = record {
  refusal = x.refusal;
  log = unless_refused x.refusal (record { windows = after; shown = x.shown; begun = l.begun }) l;
}
