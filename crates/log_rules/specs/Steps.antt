-- What the contracts of src/inner.rt cite, beside specs/Rules and specs/Firing. Assumes nothing.
use Rattle.std.specs.Prelude.{Bool, cond, ◌||◌, List, ltb, eqb, length, get_or}
use Prim.Native.Nat.{ℕ, zero, suc, ◌+◌, ◌*◌, ◌≤◌, ◌<◌}
use Rattle.arrays.specs.Parts.{part_at}
use Rattle.limits.specs.Refusal.{refuse, bad_count, bad_width}
use Rattle.rule_run.specs.Window.{Ran, ran}
use Rattle.log_rules.specs.Rules.{Rule, Rules, rank_of, rule_at, any_below, bad_formula, bad_range, bad_ranks, short_rules}
use Rattle.log_rules.specs.Firing.{lesser, fires, seen, least_rank}

-- ---- refusals
-- S13: of the first n rules any with a bad formula is 6, with a bad M or W 10
unfoldable pub formulas_refusal : ℕ → Rules → ℕ → ℕ
unfolding any_below
formulas_refusal nv rules n =
    refuse (any_below n (λ (i : ℕ). bad_formula nv (rule_at rules i))) 6
    (refuse (any_below n (λ (i : ℕ). bad_range (rule_at rules i))) 10 0)

-- S13: then 11
unfoldable pub rules_refusal : ℕ → Rules → ℕ
unfolding any_below bad_ranks
rules_refusal nv rules =
    refuse (any_below rules.count (λ (i : ℕ). bad_formula nv (rule_at rules i))) 6
    (refuse (any_below rules.count (λ (i : ℕ). bad_range (rule_at rules i))) 10
    (refuse (bad_ranks rules.count rules.ranks) 11 0))

-- 1, 2 and 4: what doesn't look into the rules
unfoldable pub lent_refusal : ℕ → ℕ → Rules → ℕ → List ℕ → ℕ
unfolding short_rules
lent_refusal nv w rules n records =
    refuse (bad_count nv) 1
    (refuse (bad_width w) 2
    (refuse (short_rules rules || ltb (length records) (nv * n)) 4 0))

-- the least of two numbers of the table, 0 standing for none
abbrev pub least_number : ℕ → ℕ → ℕ
least_number a b = cond (eqb b 0) a (cond (eqb a 0) b (lesser a b))

-- what a run asks of an input that 1, 2 and 4 don't refuse
pub record Lends (nv w : ℕ) (rules : Rules) (n : ℕ) (records : List ℕ) : Type 0 where
  pub some : 1 ≤ nv
  pub few : nv ≤ 6
  pub wide : 1 ≤ w
  pub narrow : w ≤ 64
  pub ranks : rules.count ≤ length rules.ranks
  pub ms : rules.count ≤ length rules.ms
  pub windows : rules.count ≤ length rules.windows
  pub counts : rules.count ≤ length rules.token_counts
  pub ops : 64 * rules.count ≤ length rules.ops
  pub operands : 64 * rules.count ≤ length rules.operands
  pub fits : nv * n ≤ length records

-- the same for the rule at place i alone
pub record LendsAt (nv w i : ℕ) (ms windows counts ops operands : List ℕ) (n : ℕ) (records : List ℕ) : Type 0 where
  pub some : 1 ≤ nv
  pub few : nv ≤ 6
  pub wide : 1 ≤ w
  pub narrow : w ≤ 64
  pub ms-there : i < length ms
  pub windows-there : i < length windows
  pub counts-there : i < length counts
  pub ops-there : 64 * i + 64 ≤ length ops
  pub operands-there : 64 * i + 64 ≤ length operands
  pub fits : nv * n ≤ length records

-- and of ranks that 11 doesn't refuse
pub record Ranked (rules : Rules) : Type 0 where
  pub few : rules.count ≤ 8
  pub least : (i : ℕ) → i < rules.count → 1 ≤ rank_of rules i
  pub most : (i : ℕ) → i < rules.count → rank_of rules i ≤ 8

-- ---- rules over many records
-- what a call of a rule answers and leaves; 6 where it claims more tokens than it has places
abbrev pub ran_within : ℕ → ℕ → ℕ → List ℕ → List ℕ → ℕ → ℕ → ℕ → ℕ → List ℕ → List ℕ → Ran
ran_within nv w count ops operands m window s n records answers =
    cond (ltb 64 count) (record { reply = record { refusal = 6; state = record { past = s } }; answers = answers })
    (ran nv w count ops operands m window (record { past = s }) n records answers)

-- S13: the number of a rule, 0 for none
unfoldable pub rule_refusal : ℕ → Rule → ℕ
rule_refusal nv r = refuse (bad_formula nv r) 6 (refuse (bad_range r) 10 0)

module _ (nv w : ℕ) (rule : Rule) (records : List ℕ) where
  -- its window after n records
  unfoldable pub past_at : ℕ → ℕ → ℕ
  unfolding seen part_at
  past_at s zero = s
  past_at s (suc n) = seen nv w rule (part_at nv records n) (past_at s n)

  -- whether it fires on record k
  unfoldable pub fires_on : ℕ → ℕ → Bool
  unfolding fires past_at part_at
  fires_on s k = fires nv w rule (part_at nv records k) (past_at s k)

module _ (nv w : ℕ) (rules : Rules) where
  -- the least rank of the first n rules that fires on record k; given are the windows before the first record
  abbrev pub rank_at : List ℕ → List ℕ → ℕ → ℕ → ℕ
  rank_at records windows n k = least_rank rules n (λ (i : ℕ). fires_on nv w (rule_at rules i) records (get_or windows i 0) k)

  -- the windows after n records, of the first `count` rules
  abbrev pub window_at : List ℕ → List ℕ → ℕ → ℕ → ℕ → ℕ
  window_at records windows count n i = cond (ltb i count) (past_at nv w (rule_at rules i) records (get_or windows i 0) n) (get_or windows i 0)
