-- A rule over many records in one call, and record by record, by what the windowed rule promises of any list of calls. Assumes nothing.
use mathlib.Core.Path.{◌≡◌, refl, sym, ap, ap₂, ◌∙◌, subst}
use mathlib.Core.Logic.{inl, inr}
use mathlib.Core.Bool.{Bool, true, false, cond}
use mathlib.Core.List.{List, [], ◌∷◌, ◌++◌, append_assoc, append-nil}
use Prim.Native.Nat.{ℕ, zero, suc, ◌+◌, ◌*◌, ◌^◌, ◌≤◌, ◌<◌}
use native.Mathlib.Nat.{mul-suc, mul-zero, zero-add, add-zero}
use native.Mathlib.Numerals.{add-one}
use native.Mathlib.Omega.{arith}
use borrow.Author.Tests.{le-ltb, not-false}
use lib.Dec.{eqb}
use lib.ListN.{length, get_or, take, length-append, get_or-append}
use lib.Seq.{take_all, take-add, get_or-take, get_or_at}
use Rattle.arrays.specs.Lists.{count_up}
use Rattle.arrays.specs.Parts.{part_at}
use Rattle.arrays.proofs.Lists.{get_d_map, get_or-count, length-count}
use Rattle.arrays.proofs.Parts.{length-part, part_within}
use Rattle.limits.specs.Refusal.{bad_count, bad_width}
use Rattle.limits.proofs.Refusals.{passed, refused-later, or_later, unless_not, le_or_lt}
use Rattle.expr.specs.Formula.{tokens}
use Rattle.expr.specs.Answers.{too_short}
use Rattle.expr.proofs.Tokens.{tokens-length}
use Rattle.expr.proofs.Machine.{passed as formula-passed}
use Rattle.rule_run.specs.declared.RuleState.{RuleState}
use Rattle.rule_run.specs.Window.{answers_to, run_refusal}
use Rattle.rule_run.specs.Facts.{Call, taken, state_over, answers_over, records_over, taken_over, uncut, fires_at}
use Rattle.rule_run.proofs.Runs.{freshly_counted, divided_anywhere, appended}
use Rattle.log_rules.specs.Rules.{Rule, bad_formula}
use Rattle.log_rules.specs.Firing.{alone, rule_made, fires, seen}
use Rattle.log_rules.specs.Steps.{rule_refusal, past_at, fires_on}

last : (k n : ℕ) → n ≤ k → k < suc n → k ≡ n
last k n a l = omega arith

-- a rule that passes its test, in a call whose other tests pass
pub record Sound (nv w : ℕ) (r : Rule) : Type 0 where
  pub vars : bad_count nv ≡ false
  pub width : bad_width w ≡ false
  pub ops : length r.ops ≡ 64
  pub operands : length r.operands ≡ 64
  pub number : rule_refusal nv r ≡ 0

module _ (nv w : ℕ) (r : Rule) where
  abbrev number_of : Call → ℕ
  number_of c = run_refusal nv w r.token_count r.ops r.operands r.m r.window c.n c.records c.answers

  abbrev taken_of : Call → ℕ
  taken_of c = taken nv w r.token_count r.ops r.operands r.m r.window c

  abbrev states : List Call → ℕ → RuleState
  states calls s = state_over nv w r.token_count r.ops r.operands r.m r.window calls (record { past = s })

  abbrev answers_in : List Call → ℕ → List ℕ
  answers_in calls s = answers_over nv w r.token_count r.ops r.operands r.m r.window calls (record { past = s })

  abbrev records_in : List Call → List ℕ
  records_in calls = records_over nv w r.token_count r.ops r.operands r.m r.window calls

  abbrev taken_in : List Call → ℕ
  taken_in calls = taken_over nv w r.token_count r.ops r.operands r.m r.window calls

  -- ---- two lists of calls
  taken-append : (a b : List Call) → taken_in (a ++ b) ≡ taken_in a + taken_in b
  unfolding taken_over
  taken-append [] b = sym (zero-add (taken_in b))
  taken-append (c ∷ a) b = let e = taken-append a b in omega (arith, e)

  records-append : (a b : List Call) → records_in (a ++ b) ≡ records_in a ++ records_in b
  unfolding records_over
  records-append [] b = refl
  records-append (c ∷ a) b =
      ap (λ (l : List ℕ). take (nv * taken_of c) c.records ++ l) (records-append a b) ∙ sym (append_assoc (take (nv * taken_of c) c.records) (records_in a) (records_in b))

  -- ---- a call that is not refused
  module _ (sound : Sound nv w r) where
    few : r.token_count ≤ 64
    unfolding rule_refusal
    few =
        let p = passed (bad_formula nv r) 6 _ (omega arith) sound.number in
        omega (arith, (formula-passed nv (tokens r.token_count r.ops r.operands) (not-false _ p.0)).most, tokens-length r.ops r.operands r.token_count)

    pub no_number : (c : Call) → nv * c.n ≤ length c.records → c.n ≤ length c.answers → number_of c ≡ 0
    unfolding run_refusal rule_refusal
    no_number c h k =
        let short : too_short r.token_count r.ops r.operands ≡ false =
        or_later (le-ltb (length r.ops) r.token_count (omega (arith, few, sound.ops))) (le-ltb (length r.operands) r.token_count (omega (arith, few, sound.operands))) in
        refused-later 1 sound.vars
        (refused-later 2 sound.width
        (refused-later 4 (or_later short (or_later (le-ltb (length c.records) (nv * c.n) h) (le-ltb (length c.answers) c.n k))) sound.number))

    takes_all : (c : Call) → nv * c.n ≤ length c.records → c.n ≤ length c.answers → taken_of c ≡ c.n
    takes_all c h k = unless_not (number_of c) c.n 0 (no_number c h k)

    -- the answer to one record
    head_only : (l : List ℕ) → 0 < length l → take 1 l ≡ get_or l 0 0 ∷ []
    head_only [] h = absurd (omega arith)
    head_only (x ∷ l) h = refl

    one_answer : (x : List ℕ) (s : ℕ) → nv ≤ length x → answers_in (alone x ∷ []) s ≡ get_or (rule_made nv w r (alone x) s).answers 0 0 ∷ []
    unfolding answers_over answers_to count_up
    one_answer x s h =
        let fits : nv * 1 ≤ length x = omega arith in
        let given : (rule_made nv w r (alone x) s).answers ≡ _ = unless_not (number_of (alone x)) _ (0 ∷ []) (no_number (alone x) fits (omega arith)) in
        append-nil (take (taken_of (alone x)) (rule_made nv w r (alone x) s).answers)
        ∙ ap (λ (k : ℕ). take k (rule_made nv w r (alone x) s).answers) (takes_all (alone x) fits (omega arith))
        ∙ head_only (rule_made nv w r (alone x) s).answers (subst (λ (l : List ℕ). 0 < length l) (sym given) (omega arith))

    -- ---- record by record
    module _ (records : List ℕ) where
      abbrev single : ℕ → Call
      single k = alone (part_at nv records k)

      unfoldable singles : ℕ → List Call
      singles zero = []
      singles (suc n) = singles n ++ (single n ∷ [])

      whole : (k n : ℕ) → k < n → nv * n ≤ length records → length (part_at nv records k) ≡ nv
      whole k n l h = length-part nv records k (omega (arith, part_within nv k n l))

      singles-state : (s n : ℕ) → states (singles n) s ≡ record { past = past_at nv w r records s n }
      unfolding singles state_over past_at seen
      singles-state s zero = refl
      singles-state s (suc n) =
          (appended nv w r.token_count r.ops r.operands r.m r.window (singles n) (single n ∷ []) (record { past = s })).0
          ∙ ap (λ (x : RuleState). states (single n ∷ []) x.past) (singles-state s n)

      -- the answer to record k
      abbrev answer_at : ℕ → ℕ → ℕ
      answer_at s k = get_or (rule_made nv w r (single k) (past_at nv w r records s k)).answers 0 0

      answers-more : (s n : ℕ) → nv * suc n ≤ length records → answers_in (singles (suc n)) s ≡ answers_in (singles n) s ++ (answer_at s n ∷ [])
      unfolding singles
      answers-more s n h =
          (appended nv w r.token_count r.ops r.operands r.m r.window (singles n) (single n ∷ []) (record { past = s })).1
          ∙ ap (λ (x : RuleState). answers_in (singles n) s ++ answers_in (single n ∷ []) x.past) (singles-state s n)
          ∙ ap (λ (l : List ℕ). answers_in (singles n) s ++ l) (one_answer (part_at nv records n) (past_at nv w r records s n) (omega (arith, whole n (suc n) (omega arith) h)))

      fewer : (n : ℕ) → nv * suc n ≤ length records → nv * n ≤ length records
      fewer n h = omega (arith, mul-suc nv n)

      singles-long : (s n : ℕ) → nv * n ≤ length records → length (answers_in (singles n) s) ≡ n
      unfolding singles answers_over
      singles-long s zero h = refl
      singles-long s (suc n) h =
          ap length (answers-more s n h) ∙ length-append (answers_in (singles n) s) (answer_at s n ∷ []) ∙ ap (λ (k : ℕ). k + 1) (singles-long s n (fewer n h)) ∙ add-one n

      singles-answer : (s n : ℕ) → nv * n ≤ length records → (k : ℕ) → k < n → get_or (answers_in (singles n) s) k 0 ≡ answer_at s k
      singles-answer s zero h k l = absurd (omega arith)
      singles-answer s (suc n) h k l =
          let long = singles-long s n (fewer n h) in
          ap (λ (x : List ℕ). get_or x k 0) (answers-more s n h)
          ∙ elim (le_or_lt n k) [
            | inl a ↦ ap (λ (j : ℕ). get_or (answers_in (singles n) s ++ (answer_at s n ∷ [])) j 0) (last k n a l) ∙ get_or_at (answers_in (singles n) s) (answer_at s n) [] 0 n long ∙ ap (answer_at s) (sym (last k n a l))
            | inr b ↦ get_or-append (answers_in (singles n) s) (answer_at s n ∷ []) 0 k (omega (arith, long)) ∙ singles-answer s n (fewer n h) k b
          ]

      singles-taken : (n : ℕ) → nv * n ≤ length records → taken_in (singles n) ≡ n
      unfolding singles taken_over
      singles-taken zero h = refl
      singles-taken (suc n) h =
          let one = takes_all (single n) (omega (arith, whole n (suc n) (omega arith) h)) (omega arith) in
          taken-append (singles n) (single n ∷ []) ∙ omega (arith, singles-taken n (fewer n h), one)

      singles-records : (n : ℕ) → nv * n ≤ length records → records_in (singles n) ≡ take (nv * n) records
      unfolding singles records_over part_at
      singles-records zero h = ap (λ (k : ℕ). take k records) (sym (mul-zero nv))
      singles-records (suc n) h =
          let long = whole n (suc n) (omega arith) h in
          let one = takes_all (single n) (omega (arith, long)) (omega arith) in
          records-append (singles n) (single n ∷ [])
          ∙ ap₂ (λ (a b : List ℕ). a ++ b) (singles-records n (fewer n h))
          (append-nil (take (nv * taken_of (single n)) (part_at nv records n)) ∙ ap (λ (k : ℕ). take (nv * k) (part_at nv records n)) one ∙ take_all (nv * 1) (part_at nv records n) (omega (arith, long)))
          ∙ sym (take-add (nv * n) nv records)
          ∙ ap (λ (k : ℕ). take k records) (sym (mul-suc nv n))

      -- ---- in one call
      module _ (n : ℕ) (answers : List ℕ) (fits : nv * n ≤ length records) (room : n ≤ length answers) where
        abbrev call : Call
        call = record { n = n; records = records; answers = answers }

        all : taken_of call ≡ n
        all = takes_all call fits room

        same-call : uncut nv w r.token_count r.ops r.operands r.m r.window (call ∷ []) answers ≡ uncut nv w r.token_count r.ops r.operands r.m r.window (singles n) answers
        unfolding taken_over records_over
        same-call =
            let count : taken_in (call ∷ []) ≡ taken_in (singles n) = add-zero (taken_of call) ∙ all ∙ sym (singles-taken n fits) in
            let words : records_in (call ∷ []) ≡ records_in (singles n) =
            append-nil (take (nv * taken_of call) records) ∙ ap (λ (k : ℕ). take (nv * k) records) all ∙ sym (singles-records n fits) in
            λ i. record { n = count i; records = words i; answers = answers }

        few_enough : taken_in (call ∷ []) ≤ length answers
        unfolding taken_over
        few_enough = omega (arith, all, room)

        module _ (s : ℕ) (word : s < 2 ^ 64) where
          both :
              (states (call ∷ []) s ≡ states (singles n) s)
              × (answers_in (call ∷ []) s ≡ answers_in (singles n) s)
          both =
              let a = divided_anywhere nv w r.token_count r.ops r.operands r.m r.window (call ∷ []) (record { past = s }) answers word few_enough in
              let b = divided_anywhere nv w r.token_count r.ops r.operands r.m r.window (singles n) (record { past = s }) answers word (omega (arith, singles-taken n fits, room)) in (
                a.0 ∙ ap (λ (c : Call). (rule_made nv w r c s).reply.state) same-call ∙ sym b.0,
                a.1 ∙ ap (λ (c : Call). answers_in (c ∷ []) s) same-call ∙ sym b.1,
              )

          pub fed_state : (rule_made nv w r call s).reply.state.past ≡ past_at nv w r records s n
          unfolding state_over
          fed_state = ap (λ (x : RuleState). x.past) (both.0 ∙ singles-state s n)

          pub fed_answer : (k : ℕ) → k < n → eqb (get_or (rule_made nv w r call s).answers k 0) 1 ≡ fires_on nv w r records s k
          unfolding answers_over fires_on fires
          fed_answer k l =
              let shown : answers_in (call ∷ []) s ≡ take n (rule_made nv w r call s).answers =
              append-nil (take (taken_of call) (rule_made nv w r call s).answers) ∙ ap (λ (j : ℕ). take j (rule_made nv w r call s).answers) all in
              ap (λ (x : ℕ). eqb x 1)
              (sym (get_or-take n (rule_made nv w r call s).answers k 0 l) ∙ ap (λ (x : List ℕ). get_or x k 0) (sym shown ∙ both.1) ∙ singles-answer s n fits k l)

      -- ---- from the empty window: the fresh count
      one_zero : (b : Bool) → eqb (cond b 1 0) 1 ≡ b
      one_zero true = refl
      one_zero false = refl

      pub fires_fresh : (n : ℕ) → nv * n ≤ length records → (k : ℕ) → k < n
          → fires_on nv w r records 0 k ≡ fires_at nv w r.token_count r.ops r.operands r.m r.window (take (nv * n) records) k
      unfolding fires_on fires
      fires_fresh n fits k l =
          let count = singles-taken n fits in
          let fresh = freshly_counted nv w r.token_count r.ops r.operands r.m r.window (singles n) in
          let answer : ℕ → ℕ = λ (j : ℕ). cond (fires_at nv w r.token_count r.ops r.operands r.m r.window (records_in (singles n)) j) 1 0 in
          ap (λ (x : ℕ). eqb x 1)
          (sym (singles-answer 0 n fits k l)
          ∙ ap (λ (x : List ℕ). get_or x k 0) fresh
          ∙ get_d_map answer (count_up 0 (taken_in (singles n))) k 0 0 (omega (arith, length-count 0 (taken_in (singles n)), count))
          ∙ ap answer (get_or-count 0 (taken_in (singles n)) k 0 (omega (arith, count)) ∙ zero-add k))
          ∙ one_zero _
          ∙ ap (λ (x : List ℕ). fires_at nv w r.token_count r.ops r.operands r.m r.window x k) (singles-records n fits)
