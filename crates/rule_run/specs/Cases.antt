-- 02, 2.6 in small cases, worked out by another program from the request's sentences; proofs/Worked has their proofs. Assumes nothing.
use Rattle.std.specs.Prelude.{◌≡◌, ℕ, List, [], ◌∷◌, length}
use Rattle.rule_run.specs.Window.{ran}
use Rattle.rule_run.specs.Facts.{Call, empty, answers_over, state_over}

-- what a call answers and leaves: its number, the state, the array of answers
abbrev pub Gives : ℕ → ℕ → List ℕ → List ℕ → ℕ → ℕ → ℕ → ℕ → List ℕ → List ℕ → ℕ → ℕ → List ℕ → Type 0
Gives nv w ops operands m window s n records answers number past left =
    ran nv w (length ops) ops operands m window (record { past = s }) n records answers
    ≡ record { reply = record { refusal = number; state = record { past = past } }; answers = left }

-- `v0`, and `v0 !`
abbrev pub plain_ops : List ℕ
plain_ops = 1 ∷ []

abbrev pub not_ops : List ℕ
not_ops = 1 ∷ (7 ∷ [])

abbrev pub one : List ℕ
one = 0 ∷ []

abbrev pub two : List ℕ
two = 0 ∷ (0 ∷ [])

-- two records, a call that is refused for want of answers, an empty one, one record
abbrev pub calls : List Call
calls =
    record { n = 2; records = 1 ∷ (0 ∷ []); answers = 9 ∷ (9 ∷ (9 ∷ [])) }
    ∷ (record { n = 2; records = 1 ∷ (1 ∷ []); answers = 9 ∷ [] } ∷ (record { n = 0; records = []; answers = [] } ∷ (record { n = 1; records = 1 ∷ []; answers = 9 ∷ [] } ∷ [])))

pub record Cases : Type 0 where
  -- two of the last three, words at or above 2^8 among them: 256 counts as zero; the place past the six stays
  pub window : Gives 1 8 plain_ops one 2 3 0 6 (5 ∷ (0 ∷ (256 ∷ (7 ∷ (257 ∷ (0 ∷ [])))))) (9 ∷ (9 ∷ (9 ∷ (9 ∷ (9 ∷ (9 ∷ (9 ∷ []))))))) 0 38 (0 ∷ (0 ∷ (0 ∷ (0 ∷ (1 ∷ (1 ∷ (9 ∷ [])))))))
  -- S10: before the first record there is none that `v0 !` would count
  pub before-first : Gives 1 8 not_ops two 2 2 0 2 (0 ∷ (0 ∷ [])) (9 ∷ (9 ∷ [])) 0 3 (0 ∷ (1 ∷ []))
  -- two words a record: the mark is that of the second
  pub stride : Gives 2 8 plain_ops (1 ∷ []) 1 1 0 2 (1 ∷ (0 ∷ (0 ∷ (1 ∷ [])))) (9 ∷ (9 ∷ [])) 0 1 (0 ∷ (1 ∷ []))
  -- the state's records count, as far back as W goes
  pub continued : Gives 1 8 plain_ops one 3 3 3 1 (1 ∷ []) (9 ∷ []) 0 7 (1 ∷ [])
  pub too_far_back : Gives 1 8 plain_ops one 3 3 5 1 (1 ∷ []) (9 ∷ []) 0 11 (0 ∷ [])
  -- at W = 64 the oldest leaves
  pub all_but_one : Gives 1 8 plain_ops one 64 64 18446744073709551615 1 (0 ∷ []) (9 ∷ []) 0 18446744073709551614 (0 ∷ [])
  pub oldest_gone : Gives 1 8 plain_ops one 2 64 9223372036854775808 1 (1 ∷ []) (9 ∷ []) 0 1 (0 ∷ [])
  pub all_ones : Gives 1 8 plain_ops one 64 64 18446744073709551615 1 (1 ∷ []) (9 ∷ []) 0 18446744073709551615 (1 ∷ [])
  -- no record
  pub no_record : Gives 1 8 plain_ops one 1 1 5 0 [] [] 0 5 []
  -- refused, and nothing changes: M of 0, M over W, W of 0, W of 65; 6 before 10; 4 before 6: a word too few, an answer too few; 2 before 4; 1 before 2
  pub m_zero : Gives 1 8 plain_ops one 0 3 5 1 (1 ∷ []) (9 ∷ []) 10 5 (9 ∷ [])
  pub m_over : Gives 1 8 plain_ops one 4 3 5 1 (1 ∷ []) (9 ∷ []) 10 5 (9 ∷ [])
  pub w_zero : Gives 1 8 plain_ops one 0 0 5 1 (1 ∷ []) (9 ∷ []) 10 5 (9 ∷ [])
  pub w_65 : Gives 1 8 plain_ops one 1 65 5 1 (1 ∷ []) (9 ∷ []) 10 5 (9 ∷ [])
  pub six_first : Gives 1 8 (9 ∷ []) one 1 65 5 1 (1 ∷ []) (9 ∷ []) 6 5 (9 ∷ [])
  pub word_missing : Gives 2 8 (9 ∷ []) one 1 65 5 1 (1 ∷ []) (9 ∷ []) 4 5 (9 ∷ [])
  pub answer_missing : Gives 1 8 (9 ∷ []) one 1 65 5 2 (1 ∷ (1 ∷ [])) (9 ∷ []) 4 5 (9 ∷ [])
  pub width-first : Gives 1 65 (9 ∷ []) one 1 65 5 2 (1 ∷ []) (9 ∷ []) 2 5 (9 ∷ [])
  pub count-first : Gives 7 65 (9 ∷ []) one 1 65 5 2 (1 ∷ []) (9 ∷ []) 1 5 (9 ∷ [])
  -- a run in four calls, of which one is refused and one is empty: 1, 0 and 1 with two of three are 0, 0, 1
  pub answers_over_lem : answers_over 1 8 1 plain_ops one 2 3 calls empty ≡ 0 ∷ (0 ∷ (1 ∷ []))
  pub state_over_lem : state_over 1 8 1 plain_ops one 2 3 calls empty ≡ record { past = 5 }
