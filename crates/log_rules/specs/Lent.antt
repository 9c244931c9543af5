-- Rules and records as a call is lent them: the definitions of specs/Rules and specs/Steps, of the fields. Assumes nothing.
use Rattle.std.specs.Prelude.{◌≡◌, Bool, List, [], ◌∷◌, length}
use Prim.Native.Nat.{ℕ, ◌+◌, ◌*◌, ◌≤◌, ◌<◌}
use Rattle.rule_run.specs.declared.LentRule.{LentRule}
use Rattle.rule_run.specs.declared.Records.{Records}
use Rattle.rule_run.specs.Window.{Ran}
use Rattle.log_rules.specs.declared.LentRules.{LentRules}
use Rattle.log_rules.specs.Rules.{Rule, Rules, rules_in, rule_at}
use Rattle.log_rules.specs.Steps.{lent_refusal, Lends, LendsAt, Ranked, ran_within, past_at, fires_on, rank_at, window_at}

-- the rules, and one of them
abbrev pub rules_of : LentRules → Rules
rules_of r = rules_in r.count r.ranks.now r.ms.now r.windows.now r.token_counts.now r.ops.now r.operands.now

abbrev pub rule_of : LentRule → Rule
rule_of r = record { m = r.m; window = r.window; token_count = r.token_count; ops = r.ops.now; operands = r.operands.now }

abbrev pub lent_rule : LentRules → ℕ → Rule
lent_rule r i = rule_at (rules_of r) i

-- the arrays have place i, and 64 tokens from place 64 i on
pub record IsThere (r : LentRules) (i : ℕ) : Type 0 where
  pub ms : i < length r.ms.now
  pub windows : i < length r.windows.now
  pub counts : i < length r.token_counts.now
  pub ops : 64 * i + 64 ≤ length r.ops.now
  pub operands : 64 * i + 64 ≤ length r.operands.now

-- what a run asks of rules and records that 1, 2 and 4 don't refuse; of the rule at place i alone; and with ranks that 11 doesn't refuse, and eight windows
abbrev pub AreLent : LentRules → Records → Type 0
AreLent r x = Lends x.nv x.w (rules_of r) x.n x.words.now

abbrev pub IsLent : LentRules → ℕ → Records → Type 0
IsLent r i x = LendsAt x.nv x.w i r.ms.now r.windows.now r.token_counts.now r.ops.now r.operands.now x.n x.words.now

abbrev pub Fit : LentRules → Records → List ℕ → Type 0
Fit r x seen = AreLent r x × (Ranked (rules_of r) × (length seen ≡ 8))

-- what a call of a rule answers and leaves, and of one with a record of nv words of w bits
abbrev pub ran_by : LentRule → ℕ → Records → List ℕ → Ran
ran_by r s x answers = ran_within x.nv x.w r.token_count r.ops.now r.operands.now r.m r.window s x.n x.words.now answers

abbrev pub ran_alone : LentRule → ℕ → ℕ → ℕ → List ℕ → Ran
ran_alone r nv w s words = ran_within nv w r.token_count r.ops.now r.operands.now r.m r.window s 1 words (0 ∷ [])

-- what a call is refused by for what is lent
abbrev pub refusal_at : LentRules → Records → ℕ
refusal_at r x = lent_refusal x.nv x.w (rules_of r) x.n x.words.now

-- of the rule at place i the window after the records, and whether it fires on record k
abbrev pub past_of : LentRules → ℕ → Records → ℕ → ℕ
past_of r i x s = past_at x.nv x.w (lent_rule r i) x.words.now s x.n

abbrev pub firing : LentRules → ℕ → Records → ℕ → ℕ → Bool
firing r i x s k = fires_on x.nv x.w (lent_rule r i) x.words.now s k

-- of all rules the windows after the records, and the least rank that fires on record k
abbrev pub window_of : LentRules → Records → List ℕ → ℕ → ℕ
window_of r x windows i = window_at x.nv x.w (rules_of r) x.words.now windows r.count x.n i

abbrev pub least_at : LentRules → Records → List ℕ → ℕ → ℕ
least_at r x windows k = rank_at x.nv x.w (rules_of r) x.words.now windows r.count k
