-- What holds of any run, wherever it was divided between calls: of `ran`, which is what `run_rule` replies and leaves. A call that is refused takes no
-- record and is no part of the run. proofs/Runs has the proofs. Assumes nothing.
use Rattle.std.specs.Prelude.{◌≡◌, ℕ, ◌+◌, ◌-◌, ◌*◌, ◌^◌, ◌<◌, ◌≤◌, Bool, cond, List, [], ◌∷◌, ◌++◌, map, length, take, nat_le}
use Rattle.arrays.specs.Lists.{count_up}
use Rattle.limits.specs.Refusal.{unless_refused}
use Rattle.expr.specs.Formula.{tokens}
use Rattle.rule_run.specs.declared.RuleState.{RuleState}
use Rattle.rule_run.specs.Window.{mark_at, sum_below, run_refusal, Ran, ran}

-- one call of a run: the number of its records, and the two arrays that it is lent
pub record Call : Type 0 where
  pub n : ℕ
  pub records : List ℕ
  pub answers : List ℕ

-- 02, 2.6: the empty state
abbrev pub empty : RuleState
empty = record { past = 0 }

-- 02, 2.6: with one formula, width, M and W, and so with one variable count
module _ (nv w count : ℕ) (ops operands : List ℕ) (m window : ℕ) where
  -- what a call answers and leaves in the state s
  abbrev pub made : Call → RuleState → Ran
  made c s = ran nv w count ops operands m window s c.n c.records c.answers

  -- how many records it takes: none where it is refused
  abbrev pub taken : Call → ℕ
  taken c = unless_refused (run_refusal nv w count ops operands m window c.n c.records c.answers) c.n 0

  -- 02, 2.6: the state handed back continues the run. The state after the calls, from the state s
  unfoldable pub state_over : List Call → RuleState → RuleState
  state_over [] s = s
  state_over (c ∷ more) s = state_over more (made c s).reply.state

  -- all their answers, one after the other: of each call those of its records
  unfoldable pub answers_over : List Call → RuleState → List ℕ
  answers_over [] s = []
  answers_over (c ∷ more) s = take (taken c) (made c s).answers ++ answers_over more (made c s).reply.state

  -- all records that they take, in one array, and how many these are
  unfoldable pub records_over : List Call → List ℕ
  records_over [] = []
  records_over (c ∷ more) = take (nv * taken c) c.records ++ records_over more

  unfoldable pub taken_over : List Call → ℕ
  taken_over [] = 0
  taken_over (c ∷ more) = taken c + taken_over more

  -- 02, 2.6: a fresh count over the last W records, record k the last of them; records before the first count as zero
  unfoldable pub fresh_count : List ℕ → ℕ → ℕ
  unfolding mark_at sum_below
  fresh_count records k = sum_below window (λ (i : ℕ). cond (nat_le i k) (mark_at nv w (tokens count ops operands) records (k - i)) 0)

  -- 02, 2.6: it reaches M
  abbrev pub fires_at : List ℕ → ℕ → Bool
  fires_at records k = nat_le m (fresh_count records k)

  -- 02, 2.6: for any run from the empty state each answer is 1 exactly if a fresh count over its last W records reaches M, wherever the run was divided between calls
  abbrev pub FreshlyCounted : Type 0
  FreshlyCounted =
      (calls : List Call)
      → answers_over calls empty ≡ map (λ (k : ℕ). cond (fires_at (records_over calls) k) 1 0) (count_up 0 (taken_over calls))

  -- the run in one call, with a lent array of answers
  abbrev pub uncut : List Call → List ℕ → Call
  uncut calls answers = record { n = taken_over calls; records = records_over calls; answers = answers }

  -- S9: wherever the run was divided between calls, the answers, and the state at its end, are those of the run in one call; from every state, which is a u64
  abbrev pub DividedAnywhere : Type 0
  DividedAnywhere =
      (calls : List Call) (s : RuleState) (answers : List ℕ) → s.past < 2 ^ 64 → taken_over calls ≤ length answers
      → (state_over calls s ≡ (made (uncut calls answers) s).reply.state) × (answers_over calls s ≡ answers_over (uncut calls answers ∷ []) s)

  -- 02, 2.6: the state handed back continues the run: it is a u64 again, and calls after calls are one list of calls
  abbrev pub StateFits : Type 0
  StateFits = (calls : List Call) (s : RuleState) → s.past < 2 ^ 64 → (state_over calls s).past < 2 ^ 64

  abbrev pub Appended : Type 0
  Appended =
      (a b : List Call) (s : RuleState)
      → (state_over (a ++ b) s ≡ state_over b (state_over a s)) × (answers_over (a ++ b) s ≡ answers_over a s ++ answers_over b (state_over a s))
