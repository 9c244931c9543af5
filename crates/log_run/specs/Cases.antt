-- 02, 2.7 in small cases, worked out by another program from the request's sentences; proofs/Worked has their proofs. Assumes nothing.
use Rattle.std.specs.Prelude.{◌≡◌, Bool, true, false, List, [], ◌∷◌, ◌++◌, ℕ, replicate}
use Rattle.log_rules.specs.Rules.{Rules, rules_in}
use Rattle.log_run.specs.declared.Log.{Log}
use Rattle.log_run.specs.Step.{logged, empty_log, opened}
use Rattle.log_run.specs.Facts.{Event, Event.opening, Event.feeding, log_over, close_changes}

-- 64 places whose first is x
abbrev pub first : ℕ → List ℕ
first x = x ∷ replicate 63 0

-- two rules over two words: `v0`, 1 of 1, rank 2; `v1`, 2 of 2, rank 1
abbrev pub two : Rules
two = rules_in 2 (2 ∷ (1 ∷ [])) (1 ∷ (2 ∷ [])) (1 ∷ (2 ∷ [])) (1 ∷ (1 ∷ [])) (first 1 ++ first 1) (first 0 ++ first 1)

-- one rule, `v0`, by its rank, M, W, token count and first opcode
abbrev pub one : ℕ → ℕ → ℕ → ℕ → ℕ → Rules
one rank m window count op = rules_in 1 (rank ∷ []) (m ∷ []) (window ∷ []) (count ∷ []) (first op) (first 0)

-- a log with three windows that have seen something
abbrev pub log_of : Bool → ℕ → ℕ → ℕ → ℕ → ℕ → ℕ → ℕ → Log
log_of begun number close rank later a b c = record {
  begun = begun;
  shown = record { number = number; close = close; rank = rank; later = later };
  windows = a ∷ (b ∷ (c ∷ (0 ∷ (0 ∷ (0 ∷ (0 ∷ (0 ∷ [])))))));
}

-- the log after n records, at width 8
abbrev pub After : Log → ℕ → List ℕ → Log → Type 0
After l n records left = logged 2 8 two l n records ≡ record { refusal = 0; log = left }

-- one record of one word that is refused, with rules that may be bad in several ways
abbrev pub Refused : ℕ → ℕ → Rules → ℕ → Type 0
Refused nv w rules number = logged nv w rules (log_of true 5 0 0 0 1 2 3) 1 (1 ∷ []) ≡ record { refusal = number; log = log_of true 5 0 0 0 1 2 3 }

abbrev pub largest : ℕ
largest = 18446744073709551615

-- records before an opening; one that doesn't fire and one by which both rules fire; one too few for two records; one more; an opening; one that closes
abbrev pub run : List Event
run =
    feeding 1 (1 ∷ (1 ∷ []))
    ∷ (opening ∷ (feeding 2 (0 ∷ (1 ∷ (1 ∷ (1 ∷ [])))) ∷ (feeding 2 (1 ∷ (1 ∷ [])) ∷ (feeding 1 (1 ∷ (0 ∷ [])) ∷ (opening ∷ (feeding 1 (1 ∷ (1 ∷ [])) ∷ []))))))

pub record Cases : Type 0 where
  -- the greater rank fires alone; both fire on one record; later records, of which one fires; none fires, windows go on
  pub greater : After (opened empty_log) 1 (1 ∷ (0 ∷ [])) (log_of true 1 1 2 0 1 0 0)
  pub both : After (opened empty_log) 2 (0 ∷ (1 ∷ (1 ∷ (1 ∷ [])))) (log_of true 2 2 1 0 1 3 0)
  pub later : After (opened empty_log) 5 (0 ∷ (1 ∷ (1 ∷ (1 ∷ (1 ∷ (0 ∷ (0 ∷ (0 ∷ (0 ∷ (1 ∷ [])))))))))) (log_of true 5 2 1 1 12 25 0)
  pub none : After (opened empty_log) 2 (0 ∷ (1 ∷ (0 ∷ (0 ∷ [])))) (log_of true 2 0 0 0 0 2 0)
  -- a word at 2^8 is 0
  pub word : After (opened empty_log) 1 (256 ∷ (1 ∷ [])) (log_of true 1 0 0 0 0 1 0)
  -- no sounding: nothing changes, whatever the log holds
  pub shut : After (log_of false 5 0 0 0 7 0 0) 1 (1 ∷ (1 ∷ [])) (log_of false 5 0 0 0 7 0 0)
  -- number and count stay at 2^64 - 1; the third window has no rule
  pub capped : After (log_of true largest 3 2 largest 0 0 9) 1 (1 ∷ (0 ∷ [])) (log_of true largest 3 2 largest 1 0 9)
  pub close_capped : After (log_of true largest 0 0 0 0 0 0) 1 (1 ∷ (0 ∷ [])) (log_of true largest largest 2 0 1 0 0)
  -- a log that no run gives
  pub nonsense : After (log_of true 0 0 7 4 0 0 0) 1 (1 ∷ (0 ∷ [])) (log_of true 1 1 2 4 1 0 0)
  -- 11: no rule; a rank of 0; of 9; two equal ranks
  pub no_rule : Refused 1 8 (rules_in 0 [] [] [] [] [] []) 11
  pub rank_zero : Refused 1 8 (one 0 1 1 1 1) 11
  pub rank_nine : Refused 1 8 (one 9 1 1 1 1) 11
  pub equal : Refused 1 8 (rules_in 2 (3 ∷ (3 ∷ [])) (1 ∷ (1 ∷ [])) (1 ∷ (1 ∷ [])) (1 ∷ (1 ∷ [])) (first 1 ++ first 1) (first 0 ++ first 0)) 11
  -- 10 before 11; 6 before 10; 65 tokens; 4 before 6: a record too short, an array too short; 2 before 4; 1 before 2
  pub range-first : Refused 1 8 (one 9 2 1 1 1) 10
  pub formula-first : Refused 1 8 (one 9 2 1 1 9) 6
  pub many-tokens : Refused 1 8 (one 9 2 1 65 1) 6
  pub record_short : Refused 2 8 (one 9 2 1 1 9) 4
  pub array_short : Refused 1 8 (rules_in 1 (1 ∷ []) (1 ∷ []) (1 ∷ []) (1 ∷ []) (first 1) []) 4
  pub width-first : Refused 2 65 (one 9 2 1 1 9) 2
  pub count-first : Refused 7 65 (one 9 2 1 1 9) 1
  -- a run: the close of the first sounding, and after it that of the second; the second opening takes a close away, and each sounding makes one
  pub first_close : log_over 2 8 two (feeding 1 (1 ∷ (1 ∷ [])) ∷ (opening ∷ (feeding 2 (0 ∷ (1 ∷ (1 ∷ (1 ∷ [])))) ∷ []))) empty_log ≡ log_of true 2 2 1 0 1 3 0
  pub whole_run : log_over 2 8 two run empty_log ≡ log_of true 1 1 2 0 1 1 0
  pub changes : close_changes 2 8 two run empty_log ≡ 3
