-- The closing log, record by record, by what the windowed rule promises of each record. Assumes nothing.
use Rattle.std.specs.Prelude.{Result, Ok, Err, Bool, true, false, not, ◌&&◌, List, [], ◌∷◌, map, ltb, eqb, get_or}
use Rattle.std.proofs.Math.Bool.{cond}
use Prim.Native.Nat.{ℕ, zero, suc, ◌-◌, ◌^◌}
use Rattle.arrays.specs.Lists.{count_up}
use Rattle.arrays.specs.Parts.{part_at}
use Rattle.limits.specs.declared.Refusal.{Refusal}
use Rattle.limits.specs.Refusal.{number_of, unless_refused}
use Rattle.log_rules.specs.Rules.{Rules, rule_at, log_refusal}
use Rattle.log_rules.specs.Firing.{no_rank, fires, seen, least_rank}
use Rattle.log_run.specs.declared.Shown.{Shown}
use Rattle.log_run.specs.declared.Log.{Log}

-- ---- what is shown
-- 02, 2.7: number and count stay at 2^64 - 1 once there
abbrev pub capped : ℕ → ℕ
capped n = cond (ltb n (2 ^ 64)) n (2 ^ 64 - 1)

-- one record more, on which `rank` is the least that fires, `no_rank` if none does
module _ (rank : ℕ) (s : Shown) where
  abbrev pub fired : Bool
  fired = ltb rank no_rank

  -- S11: a close has its record's number, 0 for none
  abbrev pub unclosed : Bool
  unclosed = eqb s.close 0

  -- 02, 2.7: records are numbered from 1 in each sounding. On the first record where some rule fires the sounding is closed with that record's number and the least rank that
  -- fires. Later records with a firing are only counted
  abbrev pub noted : Shown
  noted = record {
    number = capped (suc s.number);
    close = cond (fired && unclosed) (capped (suc s.number)) s.close;
    rank = cond (fired && unclosed) rank s.rank;
    later = cond (fired && not unclosed) (capped (suc s.later)) s.later;
  }

-- ---- what a caller has after a call
-- the log, and the number of the refusal, 0 for none; beside a refusal the log that was handed in
pub record Reply : Type 0 where
  pub log : Log
  pub refusal : ℕ

abbrev pub replied : Log → Result Log Refusal → Reply
replied l (Ok m) = record { log = m; refusal = 0 }
replied l (Err r) = record { log = l; refusal = number_of r }

-- ---- one record
module _ (nv w : ℕ) (rules : Rules) where
  -- 02, 2.7: the least rank that fires
  abbrev pub rank_on : List ℕ → List ℕ → ℕ
  rank_on x windows = least_rank rules rules.count (λ (i : ℕ). fires nv w (rule_at rules i) x (get_or windows i 0))

  -- S11, S12: eight windows, by the rules' places. Those of the rules have seen the record, after a close too; the others stay
  abbrev pub windows_on : List ℕ → List ℕ → List ℕ
  windows_on x windows = map (λ (i : ℕ). cond (ltb i rules.count) (seen nv w (rule_at rules i) x (get_or windows i 0)) (get_or windows i 0)) (count_up 0 8)

  -- 02, 2.7: records before any opening do nothing
  unfoldable pub stepped : List ℕ → Log → Log
  unfolding least_rank fires seen count_up
  stepped x l =
      cond l.begun (record {
        begun = true;
        shown = noted (rank_on x l.windows) l.shown;
        windows = windows_on x l.windows;
      }) l

  -- the log after the first n records of an array, nv words each
  unfoldable pub log_after : List ℕ → Log → ℕ → Log
  unfolding stepped part_at
  log_after records l zero = l
  log_after records l (suc n) = stepped (part_at nv records n) (log_after records l n)

  -- what `run_log` answers: beside a refusal the log as it was
  abbrev pub logged : Log → ℕ → List ℕ → Reply
  logged l n records = record {
    refusal = log_refusal nv w rules n records;
    log = unless_refused (log_refusal nv w rules n records) (log_after records l n) l;
  }

-- ---- opening
-- no record, no close, no later firing
abbrev pub nothing_shown : Shown
nothing_shown = record { number = 0; close = 0; rank = 0; later = 0 }

-- eight windows that have seen no record
abbrev pub fresh_windows : List ℕ
fresh_windows = 0 ∷ (0 ∷ (0 ∷ (0 ∷ (0 ∷ (0 ∷ (0 ∷ (0 ∷ [])))))))

-- 02, 2.7: the empty log: no sounding was opened
abbrev pub empty_log : Log
empty_log = record { begun = false; shown = nothing_shown; windows = fresh_windows }

-- 02, 2.7: an open call starts a sounding and its windows afresh; opening again ends the earlier one
abbrev pub opened : Log → Log
opened l = record { begun = true; shown = nothing_shown; windows = fresh_windows }
