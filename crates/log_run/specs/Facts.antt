-- What holds of every run of openings and records from the empty log, under one set of rules, one variable count and one width, however it is cut into calls: of `opened` and
-- `logged`, which are what `open_log` and `run_log` answer. A refused call takes no record; by which number, `log_refusal` says alone. Each sounding is the last of the run that ends with it. proofs/Soundings and
-- proofs/Closing have the proofs. Assumes nothing.
use Rattle.std.specs.Prelude.{◌≡◌, ◌⊎◌, Bool, true, false, cond, ◌&&◌, ℕ, suc, ◌+◌, ◌*◌, ◌≤◌, ◌<◌, ltb, eqb, take}
use mathlib.Core.List.{List, [], ◌∷◌, ◌++◌}
use Rattle.limits.specs.Refusal.{unless_refused}
use Rattle.rule_run.specs.Window.{sum_below}
use Rattle.rule_run.specs.Facts.{fires_at}
use Rattle.log_rules.specs.Firing.{lesser}
use Rattle.log_run.specs.declared.Log.{Log}
use Rattle.log_rules.specs.Rules.{Rules, rank_of, rule_at, any_below, log_refusal}
use Rattle.log_run.specs.Step.{capped, logged, empty_log, opened}

-- one call of a run: `open_log`, or `run_log` with n records in a lent array
pub data Event : Type 0 where
  opening : Event
  feeding : ℕ → List ℕ → Event

-- 02, 2.7: each sounding. Whether one was opened, and the records since then: how many, and all of them in one array
pub record Sounding : Type 0 where
  pub begun : Bool
  pub n : ℕ
  pub records : List ℕ

abbrev pub no_sounding : Sounding
no_sounding = record { begun = false; n = 0; records = [] }

abbrev pub new_sounding : Sounding
new_sounding = record { begun = true; n = 0; records = [] }

-- no opening among the calls: what follows belongs to the same sounding
abbrev pub goes_on : List Event → Bool
goes_on [] = true
goes_on (opening ∷ more) = false
goes_on (feeding n records ∷ more) = goes_on more

-- 02, 2.7: under one set of rules and one width
module _ (nv w : ℕ) (rules : Rules) where
  -- ---- the run
  -- the log after a call
  abbrev pub log_on : Event → Log → Log
  log_on opening l = opened l
  log_on (feeding n records) l = (logged nv w rules l n records).log

  -- the log after a run
  unfoldable pub log_over : List Event → Log → Log
  log_over [] l = l
  log_over (e ∷ more) l = log_over more (log_on e l)

  -- a call takes all its records, or none where it is refused
  abbrev pub taken : ℕ → List ℕ → ℕ
  taken n records = unless_refused (log_refusal nv w rules n records) n 0

  -- the sounding after a call: an opening begins one; records before any opening do nothing
  unfoldable pub sounding_on : Event → Sounding → Sounding
  sounding_on opening s = new_sounding
  sounding_on (feeding n records) s =
      cond s.begun (record { begun = true; n = s.n + taken n records; records = s.records ++ take (nv * taken n records) records }) s

  -- the last sounding of a run
  unfoldable pub sounding_over : List Event → Sounding → Sounding
  unfolding sounding_on
  sounding_over [] s = s
  sounding_over (e ∷ more) s = sounding_over more (sounding_on e s)

  -- S11: after any run the log is that of its last sounding alone, taken in one call; S12: records before an opening leave nothing behind, in the windows either
  abbrev pub LastSounding : Type 0
  LastSounding =
      (run : List Event)
      → let s = sounding_over run no_sounding in
      log_over run empty_log ≡ cond s.begun (log_over (opening ∷ (feeding s.n s.records ∷ [])) empty_log) empty_log

  -- ---- when rules fire
  -- 2.6's fresh count: the rule at place i fires on record k of a sounding, the first of which is 0
  abbrev pub fires_in : Sounding → ℕ → ℕ → Bool
  fires_in s i k =
      fires_at nv w (rule_at rules i).token_count (rule_at rules i).ops (rule_at rules i).operands (rule_at rules i).m (rule_at rules i).window s.records k

  -- some rule fires on it
  abbrev pub some_fires : Sounding → ℕ → Bool
  some_fires s k = any_below rules.count (λ (i : ℕ). fires_in s i k)

  -- some rule fires in the sounding
  abbrev pub ever_fires : Sounding → Bool
  ever_fires s = any_below s.n (some_fires s)

  -- record k is the first on which some rule fires
  pub record First (s : Sounding) (k : ℕ) : Type 0 where
    pub within : k < s.n
    pub fires : some_fires s k ≡ true
    pub before : (j : ℕ) → j < k → some_fires s j ≡ false

  -- how many records after k have a firing
  abbrev pub later_firings : Sounding → ℕ → ℕ
  later_firings s k = sum_below s.n (λ (j : ℕ). cond (ltb k j && some_fires s j) 1 0)

  -- a rank is the least that fires on record k
  pub record Least (s : Sounding) (k rank : ℕ) : Type 0 where
    pub place : ℕ
    pub among : place < rules.count
    pub fires : fires_in s place k ≡ true
    pub is : rank_of rules place ≡ rank
    pub low : 1 ≤ rank
    pub high : rank ≤ 8
    pub no_less : (i : ℕ) → i < rules.count → fires_in s i k ≡ true → rank ≤ rank_of rules i

  -- ---- the close
  -- 02, 2.7: what the log shows of a sounding: the number of its last record; its close, the first record on which some rule fires, by that record's number and the least rank that
  -- fires, and how many later records have a firing; no close if no rule fires in it
  pub record Shows (s : Sounding) (l : Log) : Type 0 where
    pub begun : l.begun ≡ s.begun
    pub number : l.shown.number ≡ capped s.n
    pub closed : (k : ℕ) → First s k → (l.shown.close ≡ capped (suc k)) × (Least s k l.shown.rank × (l.shown.later ≡ capped (later_firings s k)))
    pub unclosed : ever_fires s ≡ false → (l.shown.close ≡ 0) × ((l.shown.rank ≡ 0) × (l.shown.later ≡ 0))

  abbrev pub ShowsClose : Type 0
  ShowsClose = (run : List Event) → Shows (sounding_over run no_sounding) (log_over run empty_log)

  -- if some rule fires in it, there is a first record
  pub record Fires (s : Sounding) : Type 0 where
    pub at : ℕ
    pub first : First s at

  abbrev pub FirstFires : Type 0
  FirstFires = (s : Sounding) → ever_fires s ≡ true → Fires s

  -- 02, 2.7: no later record alters it. Of any log that shows a close, whatever calls follow before the next opening
  abbrev pub Unaltered : Type 0
  Unaltered =
      (more : List Event) (l : Log) → goes_on more ≡ true → 0 < l.shown.close
      → ((log_over more l).shown.close ≡ l.shown.close) × ((log_over more l).shown.rank ≡ l.shown.rank)

  -- ---- closed once
  -- both show the same close
  abbrev pub same_close : Log → Log → Bool
  same_close a b = eqb a.shown.close b.shown.close && eqb a.shown.rank b.shown.rank

  -- how often the close that is shown changes, from call to call; a call may take one record or many
  unfoldable pub close_changes : List Event → Log → ℕ
  close_changes [] l = 0
  close_changes (e ∷ more) l = cond (same_close l (log_on e l)) 0 1 + close_changes more (log_on e l)

  -- on no run is a sounding closed twice: after its opening the close that is shown changes once if some rule fires in it, and else never
  abbrev pub ClosedOnce : Type 0
  ClosedOnce =
      (before more : List Event) → goes_on more ≡ true
      → close_changes more (log_over (before ++ (opening ∷ [])) empty_log) ≡ cond (ever_fires (sounding_over more new_sounding)) 1 0

  -- where two rules fire on the record that closes, the smaller rank is the one shown: their ranks differ, the greater isn't shown, and if no third rule fires the smaller is
  abbrev pub SmallerRank : Type 0
  SmallerRank =
      (run : List Event) (i j k : ℕ)
      → let s = sounding_over run no_sounding in
      let rank = (log_over run empty_log).shown.rank in
      First s k → i < rules.count → j < rules.count → (i ≡ j → ⊥) → fires_in s i k ≡ true → fires_in s j k ≡ true
      → (rank_of rules i ≡ rank_of rules j → ⊥)
      × ((rank_of rules i < rank_of rules j → rank < rank_of rules j)
      × (((t : ℕ) → t < rules.count → fires_in s t k ≡ true → (t ≡ i) ⊎ (t ≡ j)) → rank ≡ lesser (rank_of rules i) (rank_of rules j)))
