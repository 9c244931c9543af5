-- Which rules fire on a record, and the least of their ranks, by what the windowed rule promises. Assumes nothing.
use Rattle.std.specs.Prelude.{Bool, cond, List, [], ◌∷◌, ℕ, zero, suc, ltb, eqb, get_or}
use Rattle.rule_run.specs.Window.{Ran}
use Rattle.rule_run.specs.Facts.{Call, made}
use Rattle.log_rules.specs.Rules.{Rule, Rules, rank_of}

-- the call by which a windowed rule is handed one record alone
abbrev pub alone : List ℕ → Call
alone x = record { n = 1; records = x; answers = 0 ∷ [] }

-- above every rank: no rule fires
abbrev pub no_rank : ℕ
no_rank = 9

-- 02, 2.7: the smaller rank wins
abbrev pub lesser : ℕ → ℕ → ℕ
lesser a b = cond (ltb b a) b a

module _ (nv w : ℕ) (rule : Rule) where
  -- 02, 2.7: using the windowed rules only by what they promise. What is promised of a call of one whose window is s
  abbrev pub rule_made : Call → ℕ → Ran
  rule_made c s = made nv w rule.token_count rule.ops rule.operands rule.m rule.window c (record { past = s })

  -- it fires on a record: its answer is 1
  unfoldable pub fires : List ℕ → ℕ → Bool
  fires x s = eqb (get_or (rule_made (alone x) s).answers 0 0) 1

  -- its window after the record
  unfoldable pub seen : List ℕ → ℕ → ℕ
  seen x s = (rule_made (alone x) s).reply.state.past

-- the least rank among those of the first n rules that pass a test
unfoldable pub least_rank : Rules → ℕ → (ℕ → Bool) → ℕ
least_rank rules zero test = no_rank
least_rank rules (suc n) test = cond (test n) (lesser (least_rank rules n test) (rank_of rules n)) (least_rank rules n test)
