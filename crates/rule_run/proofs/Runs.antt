-- The statements of specs/Facts. Assumes nothing.
use Rattle.std.proofs.Common.{◌≡◌, ℕ, zero, suc, ◌+◌, ◌-◌, ◌*◌, ◌%◌, ◌^◌, ◌<◌, ◌≤◌, Bool, true, false, cond, ltb, leb, List, [], ◌∷◌, ◌++◌, map, length, take, drop, sym, refl, ap, ◌∙◌, subst, ap₂, inl, inr, append_assoc, append-nil, add-zero, add-suc, eq-zero-or-pos, mul-zero, zero-add, mul-add, add-one, arith, length-append, length-take-le, take_all, take_at, le-ltb, le-leb}
use native.Mathlib.Nat.{zero-div}
use borrow.Author.Tests.{lt-leb}
use lib.Seq.{drop-append-add}
use Rattle.arrays.specs.Lists.{count_up}
use Rattle.arrays.specs.Parts.{part_at}
use Rattle.arrays.proofs.Parts.{part_below}
use Rattle.limits.specs.Refusal.{unless_refused}
use Rattle.limits.proofs.Refusals.{or_later, unless_refused_lem, unless_not}
use Rattle.expr.specs.Formula.{tokens}
use Rattle.expr_eval.specs.Value.{value_of}
use Rattle.rule_run.specs.declared.RuleState.{RuleState}
use Rattle.rule_run.specs.Window.{nonzero, mark_at, sum_below, ago, answer_to, answers_to, state_after, run_refusal}
use Rattle.arith.specs.Word.{bit_of}
use Rattle.rule_run.specs.Facts.{Call, made, taken, state_over, answers_over, records_over, taken_over, fresh_count, uncut, FreshlyCounted, DividedAnywhere, StateFits, Appended}
use Rattle.rule_run.proofs.Counting.{Bits, sum_same, ago_here, ago-before, ago_cases, state_bit, state_lt, state-none}
use Rattle.rule_run.proofs.Feeding.{length-answers, answers-more, marks-low, Passes, passes, ready, refusal-none}

-- ---- records joined
-- marks alike below n give the same answers
module _ (f h : ℕ → ℕ) (s : ℕ) where
  ago-same : (n : ℕ) → ((k : ℕ) → k < n → h k ≡ f k) → (i : ℕ) → ago h s n i ≡ ago f s n i
  ago-same n e i =
      ago_cases f s n i (λ (x : ℕ). ago h s n i ≡ x)
      (λ l. ago_here h s n i l ∙ e (n - 1 - i) (omega arith))
      (λ l. ago-before h s n i l)

  answers-same : (m window n : ℕ) → ((k : ℕ) → k < n → h k ≡ f k) → answers_to h s m window n ≡ answers_to f s m window n
  unfolding answers_to count_up answer_to
  answers-same m window zero e = refl
  answers-same m window (suc n) e =
      ap (answers_to h s m window) (sym (add-one n))
      ∙ answers-more h s m window n
      ∙ ap₂ (λ (l : List ℕ) (x : ℕ). l ++ (cond (leb m x) 1 0 ∷ []))
      (answers-same m window n (λ k l. e k (omega arith)))
      (sum_same window (ago h s (suc n)) (ago f s (suc n)) (λ i l. ago-same (suc n) e i))
      ∙ sym (answers-more f s m window n)
      ∙ ap (answers_to f s m window) (add-one n)

-- a call of n records with marks f, then t records with marks g: together those of h
module _ (f g h : ℕ → ℕ) (s n : ℕ) (low : Bits f) (first : (k : ℕ) → k < n → h k ≡ f k) where
  abbrev between : ℕ
  between = state_after f s n

  ago-joined : (t : ℕ) → ((k : ℕ) → k < t → h (n + k) ≡ g k) → (i : ℕ) → i < 64 → ago h s (n + t) i ≡ ago g between t i
  ago-joined t later i few =
      ago_cases g between t i (λ (x : ℕ). ago h s (n + t) i ≡ x)
      (λ l. ago_here h s (n + t) i (omega arith) ∙ ap h (omega arith) ∙ later (t - 1 - i) (omega arith))
      (λ l.
      ago_cases f s n (i - t) (λ (x : ℕ). ago h s (n + t) i ≡ x)
      (λ b. ago_here h s (n + t) i (omega arith) ∙ ap h (omega arith) ∙ first (n - 1 - (i - t)) (omega arith))
      (λ b. ago-before h s (n + t) i (omega arith) ∙ ap (bit_of s) (omega arith))
      ∙ sym (state_bit f s low n (i - t) (omega arith)))

  state-joined : (t : ℕ) → ((k : ℕ) → k < t → h (n + k) ≡ g k) → state_after h s (n + t) ≡ state_after g between t
  unfolding state_after
  state-joined t later =
      sum_same 64 (λ (i : ℕ). ago h s (n + t) i * 2 ^ i) (λ (i : ℕ). ago g between t i * 2 ^ i) (λ i l. ap (λ (x : ℕ). x * 2 ^ i) (ago-joined t later i l))

  answers-joined : (m window : ℕ) → window ≤ 64 → (t : ℕ) → ((k : ℕ) → k < t → h (n + k) ≡ g k)
      → answers_to h s m window (n + t) ≡ answers_to f s m window n ++ answers_to g between m window t
  unfolding answers_to count_up answer_to
  answers-joined m window few zero later =
      ap (answers_to h s m window) (add-zero n) ∙ answers-same f h s m window n first ∙ sym (append-nil (answers_to f s m window n))
  answers-joined m window few (suc t) later =
      let next : n + suc t ≡ n + t + 1 = omega arith in
      ap (answers_to h s m window) next
      ∙ answers-more h s m window (n + t)
      ∙ ap₂ (λ (l : List ℕ) (x : ℕ). l ++ (cond (leb m x) 1 0 ∷ []))
      (answers-joined m window few t (λ k l. later k (omega arith)))
      (ap (λ (k : ℕ). sum_below window (ago h s k)) (sym (add-suc n t))
      ∙ sum_same window (ago h s (n + suc t)) (ago g between (suc t)) (λ i l. ago-joined (suc t) later i (omega arith)))
      ∙ append_assoc (answers_to f s m window n) (answers_to g between m window t) (answer_to g between m window (suc t) ∷ [])
      ∙ ap (λ (l : List ℕ). answers_to f s m window n ++ l) (sym (answers-more g between m window t) ∙ ap (answers_to g between m window) (add-one t))

-- ---- the run
module _ (nv w count : ℕ) (ops operands : List ℕ) (m window : ℕ) where
  abbrev mark : List ℕ → ℕ → ℕ
  mark records = mark_at nv w (tokens count ops operands) records

  abbrev refusal_of : Call → ℕ
  refusal_of c = run_refusal nv w count ops operands m window c.n c.records c.answers

  -- the records of an array that is put before another
  mark-first : (n : ℕ) (a b : List ℕ) → nv * n ≤ length a → (k : ℕ) → k < n → mark (take (nv * n) a ++ b) k ≡ mark a k
  unfolding mark_at
  mark-first n a b fits k l =
      let long : length (take (nv * n) a) ≡ nv * n = length-take-le (nv * n) a fits in
      ap (λ (p : List ℕ). nonzero (value_of w p (tokens count ops operands)))
      (part_below nv (take (nv * n) a ++ b) a n (omega (arith, long, length-append (take (nv * n) a) b)) fits (take_at (take (nv * n) a) b (nv * n) long) k l)

  mark-later : (n : ℕ) (a b : List ℕ) → nv * n ≤ length a → (k : ℕ) → mark (take (nv * n) a ++ b) (n + k) ≡ mark b k
  unfolding mark_at part_at
  mark-later n a b fits k =
      let long : length (take (nv * n) a) ≡ nv * n = length-take-le (nv * n) a fits in
      let at : nv * (n + k) ≡ length (take (nv * n) a) + nv * k = mul-add nv n k ∙ ap (λ (x : ℕ). x + nv * k) (sym long) in
      ap (λ (p : List ℕ). nonzero (value_of w (take nv p) (tokens count ops operands)))
      (ap (λ (x : ℕ). drop x (take (nv * n) a ++ b)) at ∙ drop-append-add (take (nv * n) a) b (nv * k))

  -- what a list of calls gives, from the state s
  pub record Over (calls : List Call) (s : ℕ) : Type 0 where
    pub long : length (records_over nv w count ops operands m window calls) ≡ nv * taken_over nv w count ops operands m window calls
    pub state : (state_over nv w count ops operands m window calls (record { past = s })).past
        ≡ state_after (mark (records_over nv w count ops operands m window calls)) s (taken_over nv w count ops operands m window calls)
    pub answers : answers_over nv w count ops operands m window calls (record { past = s })
        ≡ answers_to (mark (records_over nv w count ops operands m window calls)) s m window (taken_over nv w count ops operands m window calls)

  -- one call before them: it takes t records and hands on the state s'
  module _ (c : Call) (more : List Call) (s : ℕ) where
    abbrev R : List ℕ
    R = records_over nv w count ops operands m window more

    abbrev T : ℕ
    T = taken_over nv w count ops operands m window more

    over_refused : 0 < refusal_of c → Over more s → Over (c ∷ more) s
    unfolding records_over taken_over state_over answers_over
    over_refused h o =
        let none : taken nv w count ops operands m window c ≡ 0 = unless_refused_lem (refusal_of c) c.n 0 h in
        let stays : (made nv w count ops operands m window c (record { past = s })).reply.state ≡ record { past = s } = λ i. record { past = unless_refused_lem (refusal_of c) (state_after (mark c.records) s c.n) s h i } in
        let same : take (nv * taken nv w count ops operands m window c) c.records ++ R ≡ R = ap (λ (k : ℕ). take k c.records ++ R) (ap (λ (k : ℕ). nv * k) none ∙ mul-zero nv) in
        let total : taken nv w count ops operands m window c + T ≡ T = ap (λ (k : ℕ). k + T) none ∙ zero-add T in
        record {
          long = ap length same ∙ o.long ∙ ap (λ (k : ℕ). nv * k) (sym total);
          state =
              ap (λ (x : RuleState). (state_over nv w count ops operands m window more x).past) stays
              ∙ o.state
              ∙ ap₂ (λ (l : List ℕ) (k : ℕ). state_after (mark l) s k) (sym same) (sym total);
          answers =
              ap₂ (λ (k : ℕ) (x : RuleState). take k (made nv w count ops operands m window c (record { past = s })).answers ++ answers_over nv w count ops operands m window more x) none stays
              ∙ o.answers
              ∙ ap₂ (λ (l : List ℕ) (k : ℕ). answers_to (mark l) s m window k) (sym same) (sym total);
        }

    over_answered : refusal_of c ≡ 0 → Over more (state_after (mark c.records) s c.n) → Over (c ∷ more) s
    unfolding records_over taken_over state_over answers_over
    over_answered e o =
        let r = ready nv w count ops operands m window c.n c.records c.answers e in
        let all : taken nv w count ops operands m window c ≡ c.n = unless_not (refusal_of c) c.n 0 e in
        let s' : ℕ = state_after (mark c.records) s c.n in
        let goes : (made nv w count ops operands m window c (record { past = s })).reply.state ≡ record { past = s' } = λ i. record { past = unless_not (refusal_of c) s' s e i } in
        let low : Bits (mark c.records) = marks-low nv w (tokens count ops operands) c.records in
        let fits = r.0.fits in
        let long : length (take (nv * c.n) c.records) ≡ nv * c.n = length-take-le (nv * c.n) c.records fits in
        let same : take (nv * c.n) c.records ++ R ≡ take (nv * taken nv w count ops operands m window c) c.records ++ R = ap (λ (k : ℕ). take (nv * k) c.records ++ R) (sym all) in
        let total : c.n + T ≡ taken nv w count ops operands m window c + T = ap (λ (k : ℕ). k + T) (sym all) in
        let shown : take c.n (made nv w count ops operands m window c (record { past = s })).answers ≡ answers_to (mark c.records) s m window c.n =
        ap (take c.n) (unless_not (refusal_of c) _ c.answers e) ∙ take_at (answers_to (mark c.records) s m window c.n) _ c.n (length-answers (mark c.records) s m window c.n) in
        record {
          long =
              ap length (sym same)
              ∙ length-append (take (nv * c.n) c.records) R
              ∙ ap₂ (λ (x y : ℕ). x + y) long o.long
              ∙ sym (mul-add nv c.n T)
              ∙ ap (λ (k : ℕ). nv * k) total;
          state =
              ap (λ (x : RuleState). (state_over nv w count ops operands m window more x).past) goes
              ∙ o.state
              ∙ sym (state-joined (mark c.records) (mark R) (mark (take (nv * c.n) c.records ++ R)) s c.n low (mark-first c.n c.records R fits) T (λ k l. mark-later c.n c.records R fits k))
              ∙ ap₂ (λ (l : List ℕ) (k : ℕ). state_after (mark l) s k) same total;
          answers =
              ap₂ (λ (k : ℕ) (x : RuleState). take k (made nv w count ops operands m window c (record { past = s })).answers ++ answers_over nv w count ops operands m window more x) all goes
              ∙ ap₂ (λ (x y : List ℕ). x ++ y) shown o.answers
              ∙ sym (answers-joined (mark c.records) (mark R) (mark (take (nv * c.n) c.records ++ R)) s c.n low (mark-first c.n c.records R fits) m window r.0.most T (λ k l. mark-later c.n c.records R fits k))
              ∙ ap₂ (λ (l : List ℕ) (k : ℕ). answers_to (mark l) s m window k) same total;
        }

  pub over : (calls : List Call) (s : ℕ) → s < 2 ^ 64 → Over calls s
  unfolding records_over taken_over state_over answers_over answers_to count_up
  over [] s h = record { long = sym (mul-zero nv); state = sym (state-none (mark []) s h); answers = refl }
  over (c ∷ more) s h = elim (eq-zero-or-pos (refusal_of c)) [
    | inl e ↦ over_answered c more s e (over more (state_after (mark c.records) s c.n) (state_lt (mark c.records) s (marks-low nv w (tokens count ops operands) c.records) c.n))
    | inr p ↦ over_refused c more s p (over more s h)
  ]

  -- the calls of one list, then those of another
  pub appended : Appended nv w count ops operands m window
  unfolding state_over answers_over
  appended [] b s = (refl, refl)
  appended (c ∷ a) b s =
      let rest = appended a b (made nv w count ops operands m window c s).reply.state in (
        rest.0,
        ap (λ (l : List ℕ). take (taken nv w count ops operands m window c) (made nv w count ops operands m window c s).answers ++ l) rest.1
            ∙ sym (append_assoc (take (taken nv w count ops operands m window c) (made nv w count ops operands m window c s).answers) _ _),
      )

  pub state-fits : StateFits nv w count ops operands m window
  state-fits calls s h =
      subst (λ (x : ℕ). x < 2 ^ 64) (sym (over calls s.past h).state)
      (state_lt (mark (records_over nv w count ops operands m window calls)) s.past (marks-low nv w (tokens count ops operands) (records_over nv w count ops operands m window calls)) (taken_over nv w count ops operands m window calls))

  -- ---- in one call
  -- if a record is taken, some call passed all tests that don't ask for the arrays of records and answers
  pub record Fit : Type 0 where
    pub call : Call
    pub passes : Passes nv w count ops operands m window call.n call.records call.answers

  fit-one : (c : Call) (more : List Call) → 0 < taken nv w count ops operands m window c + taken_over nv w count ops operands m window more
      → (0 < taken_over nv w count ops operands m window more → Fit) → Fit
  fit-one c more h rest = elim (eq-zero-or-pos (refusal_of c)) [
    | inl e ↦ record { call = c; passes = passes nv w count ops operands m window c.n c.records c.answers e }
    | inr p ↦ rest (omega (arith, unless_refused_lem (refusal_of c) c.n 0 p))
  ]

  fit : (calls : List Call) → 0 < taken_over nv w count ops operands m window calls → Fit
  unfolding taken_over
  fit [] h = absurd (omega arith)
  fit (c ∷ more) h = fit-one c more h (fit more)

  module _ (calls : List Call) (answers : List ℕ) (long : length (records_over nv w count ops operands m window calls) ≡ nv * taken_over nv w count ops operands m window calls) (room : taken_over nv w count ops operands m window calls ≤ length answers) where
    abbrev u : Call
    u = uncut nv w count ops operands m window calls answers

    uncut-none : 0 < taken_over nv w count ops operands m window calls → refusal_of u ≡ 0
    uncut-none h =
        let p = (fit calls h).passes in
        sym
        (refusal-none nv w count ops operands m window u.n u.records answers p.vars p.width
        (or_later p.tokens-long (or_later (le-ltb (length u.records) (nv * u.n) (omega (arith, long))) (le-ltb (length answers) u.n room)))
        p.formula
        p.range)

    uncut-taken : taken nv w count ops operands m window u ≡ taken_over nv w count ops operands m window calls
    uncut-taken = elim (eq-zero-or-pos (taken_over nv w count ops operands m window calls)) [
      | inl e ↦ ap (λ (k : ℕ). unless_refused (refusal_of u) k 0) e ∙ either (ltb 0 (refusal_of u)) ∙ sym e
      | inr p ↦ unless_not (refusal_of u) u.n 0 (uncut-none p)
    ]
      where
        either : (b : Bool) → ◌≡◌ {A = ℕ} (cond b 0 0) 0
        either true = refl
        either false = refl

    uncut_over : (taken_over nv w count ops operands m window (u ∷ []) ≡ taken_over nv w count ops operands m window calls) × (records_over nv w count ops operands m window (u ∷ []) ≡ records_over nv w count ops operands m window calls)
    unfolding taken_over records_over
    uncut_over = (
      add-zero (taken nv w count ops operands m window u) ∙ uncut-taken,
      append-nil (take (nv * taken nv w count ops operands m window u) u.records) ∙ ap (λ (k : ℕ). take (nv * k) u.records) uncut-taken ∙ take_all (nv * u.n) u.records (omega (arith, long)),
    )

  pub divided_anywhere : DividedAnywhere nv w count ops operands m window
  unfolding state_over
  divided_anywhere calls s answers h room =
      let o = over calls s.past h in
      let v = over (uncut nv w count ops operands m window calls answers ∷ []) s.past h in
      let e = uncut_over calls answers o.long room in
      let state = o.state ∙ sym (v.state ∙ ap₂ (λ (l : List ℕ) (k : ℕ). state_after (mark l) s.past k) e.1 e.0) in
      ((λ i. record { past = state i }), o.answers ∙ sym (v.answers ∙ ap₂ (λ (l : List ℕ) (k : ℕ). answers_to (mark l) s.past m window k) e.1 e.0))

  -- ---- a fresh count
  zero_bit : (i : ℕ) → bit_of 0 i ≡ 0
  zero_bit i = ap (λ (x : ℕ). x % 2) (zero-div (2 ^ i))

  fresh : (records : List ℕ) (k : ℕ) → sum_below window (ago (mark records) 0 (suc k)) ≡ fresh_count nv w count ops operands m window records k
  unfolding fresh_count
  fresh records k =
      sum_same window (ago (mark records) 0 (suc k)) (λ (i : ℕ). cond (leb i k) (mark records (k - i)) 0)
      (λ i l.
      ago_cases (mark records) 0 (suc k) i (λ (x : ℕ). x ≡ cond (leb i k) (mark records (k - i)) 0)
      (λ b. ap (mark records) (omega arith) ∙ sym (ap (λ (t : Bool). cond t (mark records (k - i)) 0) (le-leb i k (omega arith))))
      (λ b. zero_bit (i - suc k) ∙ sym (ap (λ (t : Bool). cond t (mark records (k - i)) 0) (lt-leb i k (omega arith)))))

  pub freshly_counted : FreshlyCounted nv w count ops operands m window
  unfolding answers_to answer_to
  freshly_counted calls =
      (over calls 0 (omega arith)).answers
      ∙ (λ i. map (λ (k : ℕ). cond (leb m (fresh (records_over nv w count ops operands m window calls) k i)) 1 0) (count_up 0 (taken_over nv w count ops operands m window calls)))
