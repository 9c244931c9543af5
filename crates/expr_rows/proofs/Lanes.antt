-- A stack of rows as sixteen stacks of words, each of which goes as the evaluator's own. Assumes nothing.
use Rattle.expr.proofs.Testing.{formula-short}
use mathlib.Core.Path.{◌≡◌, refl, sym, ap, ap₂, ◌∙◌, subst}
use mathlib.Core.Logic.{◌⊎◌, inl, inr}
use mathlib.Core.Bool.{true}
use mathlib.Core.List.{List, map}
use Prim.Native.Nat.{ℕ, ◌+◌, ◌-◌, ◌*◌, ◌^◌, ◌≤◌, ◌<◌}
use native.Mathlib.Nat.{zero-add}
use native.Mathlib.Omega.{arith}
use native.Mathlib.Decide.{dec_lt}
use borrow.Author.Tests.{lt-ltb}
use lib.ListN.{length, get_or, set, length-map, length-set}
use lib.Seq.{ext_get_or, get_or-set_same, get_or-set_other}
use Rattle.arith.specs.Word.{not_of, neg_of}
use Rattle.arrays.specs.Lists.{count_up}
use Rattle.arrays.specs.Parts.{part_at, put_part}
use Rattle.arrays.proofs.Lists.{length-count, get_or-count, get_d_map}
use Rattle.arrays.proofs.Parts.{length-part, part_within, get_d_part, length-put, part_put-same, part_put_other}
use Rattle.row_gates.specs.Gates.{gate_of}
use Rattle.expr.specs.declared.Token.{Token}
use Rattle.expr.specs.declared.Token.TheVariants.{Constant, Variable, Binary, Not, Neg, Bad}
use Rattle.expr.specs.Formula.{arity, known, token_at, tokens, is_formula}
use Rattle.expr_eval.specs.Value.{value_alg, value_of}
use Rattle.expr_eval.proofs.Stack.{Stage, stage_start, stage_end, stage_constant, stage_variable, stage_not, stage_neg, stage_gate, stage_unary, stage_binary, stage_bad, stage_word}
use Rattle.expr_rows.specs.Rows.{leaves, RowsReady}

-- ---- one lane
-- lane j of a stack of rows
unfoldable pub lane_of : ℕ → List ℕ → List ℕ
lane_of j stack = map (λ (k : ℕ). get_or stack (16 * k + j) 0) (count_up 0 64)

lane-long : (j : ℕ) (stack : List ℕ) → length (lane_of j stack) ≡ 64
unfolding lane_of
lane-long j stack = length-map (count_up 0 64) (λ (k : ℕ). get_or stack (16 * k + j) 0) ∙ length-count 0 64

pub lane-at : (j : ℕ) (stack : List ℕ) (k : ℕ) → k < 64 → get_or (lane_of j stack) k 0 ≡ get_or stack (16 * k + j) 0
unfolding lane_of
lane-at j stack k h =
    get_d_map (λ (k : ℕ). get_or stack (16 * k + j) 0) (count_up 0 64) k 0 0 (omega (arith, length-count 0 64))
    ∙ ap (λ (n : ℕ). get_or stack (16 * n + j) 0) (get_or-count 0 64 k 0 h ∙ zero-add k)

-- a row put in its place is a word put in each lane
module _ (j : ℕ) (stack : List ℕ) (k : ℕ) (row : List ℕ) (room : length stack ≡ 1024) (wide : length row ≡ 16) (below : k < 64) (lane : j < 16) where
  fits : 16 * k + 16 ≤ length stack
  fits = omega arith

  other : (t : ℕ) → t < 64 → (t < k) ⊎ (k < t) → (t ≡ k → ⊥) → get_or (lane_of j (put_part 16 stack k row)) t 0 ≡ get_or (set (lane_of j stack) k (get_or row j 0)) t 0
  other t h apart not-k =
      lane-at j (put_part 16 stack k row) t h
      ∙ sym (get_d_part 16 (put_part 16 stack k row) t j lane)
      ∙ ap (λ (l : List ℕ). get_or l j 0) (part_put_other 16 stack k row fits wide t apart)
      ∙ get_d_part 16 stack t j lane
      ∙ sym (lane-at j stack t h)
      ∙ sym (get_or-set_other (lane_of j stack) k t (get_or row j 0) 0 not-k)

  place : (t : ℕ) → t < 64 → (t < k) ⊎ ((t ≡ k) ⊎ (k < t)) → get_or (lane_of j (put_part 16 stack k row)) t 0 ≡ get_or (set (lane_of j stack) k (get_or row j 0)) t 0
  place t h (inl l) = other t h (inl l) (λ e. omega arith)
  place t h (inr (inr l)) = other t h (inr l) (λ e. omega arith)
  place t h (inr (inl e)) =
      lane-at j (put_part 16 stack k row) t h
      ∙ sym (get_d_part 16 (put_part 16 stack k row) t j lane)
      ∙ ap (λ (n : ℕ). get_or (part_at 16 (put_part 16 stack k row) n) j 0) e
      ∙ ap (λ (l : List ℕ). get_or l j 0) (part_put-same 16 stack k row fits wide)
      ∙ sym (get_or-set_same (lane_of j stack) k (get_or row j 0) 0 (omega (arith, lane-long j stack)))
      ∙ ap (λ (n : ℕ). get_or (set (lane_of j stack) k (get_or row j 0)) n 0) (sym e)

  side : (t : ℕ) → (t < k) ⊎ ((t ≡ k) ⊎ (k < t))
  side t = elim (dec_lt t k) [ yes a ↦ inl a | no a ↦ elim (dec_lt k t) [ yes b ↦ inr (inr b) | no b ↦ inr (inl (omega arith)) ] ]

  pub lane-put : lane_of j (put_part 16 stack k row) ≡ set (lane_of j stack) k (get_or row j 0)
  lane-put =
      ext_get_or 0 (lane_of j (put_part 16 stack k row)) (set (lane_of j stack) k (get_or row j 0))
      (lane-long j (put_part 16 stack k row) ∙ sym (length-set (lane_of j stack) k (get_or row j 0) ∙ lane-long j stack))
      (λ t h. place t (omega (arith, lane-long j (put_part 16 stack k row))) (side t))

-- ---- one token
module _ (w : ℕ) (words : List ℕ) (count : ℕ) (ops operands arr : List ℕ) (sp i : ℕ) (s : Stage w words count ops operands arr sp i) (more : i < count) where
  -- the word that a token leaves, over the words below those it takes
  pub token_on : (t : Token) → token_at ops operands i ≡ t → (base x : ℕ) → base + arity t ≡ sp
      → x ≡ leaves (value_alg w words) t (get_or arr (sp - 2) 0) (get_or arr (sp - 1) 0) → Stage w words count ops operands (set arr base x) (base + 1) (i + 1)
  unfolding leaves value_alg arity
  token_on (Constant k) here base x e v =
      let q : sp ≡ base = omega arith in
      subst (λ (n : ℕ). Stage w words count ops operands (set arr n x) (n + 1) (i + 1)) q (stage_constant w words count ops operands arr sp i s more (Constant k) here x k refl v)
  token_on (Variable k) here base x e v =
      let q : sp ≡ base = omega arith in
      subst (λ (n : ℕ). Stage w words count ops operands (set arr n x) (n + 1) (i + 1)) q (stage_variable w words count ops operands arr sp i s more (Variable k) here x k refl v)
  token_on (Binary g) here base x e v =
      let p : sp ≡ base + 1 + 1 = omega arith in
      let a : sp - 2 ≡ base = omega arith in
      let b : sp - 1 ≡ base + 1 = omega arith in
      stage_gate w words count ops operands arr sp i s more (Binary g) here x (base + 1) base p refl g refl (v ∙ ap₂ (λ (m n : ℕ). gate_of g w (get_or arr m 0) (get_or arr n 0)) a b)
  token_on Not here base x e v =
      let p : sp ≡ base + 1 = omega arith in
      let b : sp - 1 ≡ base = omega arith in
      subst (λ (n : ℕ). Stage w words count ops operands (set arr base x) n (i + 1)) p
      (stage_not w words count ops operands arr sp i s more Not here x base p refl (v ∙ ap (λ (n : ℕ). not_of (2 ^ w) (get_or arr n 0)) b))
  token_on Neg here base x e v =
      let p : sp ≡ base + 1 = omega arith in
      let b : sp - 1 ≡ base = omega arith in
      subst (λ (n : ℕ). Stage w words count ops operands (set arr base x) n (i + 1)) p
      (stage_neg w words count ops operands arr sp i s more Neg here x base p refl (v ∙ ap (λ (n : ℕ). neg_of (2 ^ w) (get_or arr n 0)) b))
  token_on Bad here base x e v = absurd (stage_bad w words count ops operands arr sp i s more Bad here refl)

  -- what it takes is there
  pub token_there : (t : Token) → token_at ops operands i ≡ t → arity t ≤ sp
  unfolding arity
  token_there (Constant k) here = omega arith
  token_there (Variable k) here = omega arith
  token_there (Binary g) here = stage_binary w words count ops operands arr sp i s more (Binary g) here g refl
  token_there Not here = stage_unary w words count ops operands arr sp i s more Not here (inl refl)
  token_there Neg here = stage_unary w words count ops operands arr sp i s more Neg here (inr refl)
  token_there Bad here = absurd (stage_bad w words count ops operands arr sp i s more Bad here refl)

  -- and it may stand there
  pub token_may : (t : Token) → token_at ops operands i ≡ t → known (length words) t ≡ true
  unfolding known
  token_may (Constant k) here = refl
  token_may (Variable k) here = lt-ltb k (length words) (stage_word w words count ops operands arr sp i s more (Variable k) here k refl)
  token_may (Binary g) here = refl
  token_may Not here = refl
  token_may Neg here = refl
  token_may Bad here = absurd (stage_bad w words count ops operands arr sp i s more Bad here refl)

-- ---- all sixteen lanes
pub record RowStage (w nv count : ℕ) (ops operands records stack : List ℕ) (sp i : ℕ) : Type 0 where
  pub room : length stack ≡ 1024
  pub lanes : (j : ℕ) → j < 16 → Stage w (part_at nv records j) count ops operands (lane_of j stack) sp i

-- each record has nv words
record_long : (nv : ℕ) (records : List ℕ) → length records ≡ nv * 16 → (j : ℕ) → j < 16 → length (part_at nv records j) ≡ nv
record_long nv records e j h = length-part nv records j (omega (arith, part_within nv j 16 h))

module _ (w nv count : ℕ) (ops operands records : List ℕ) where
  pub rows_start : (stack : List ℕ) → RowsReady w nv count ops operands records stack → RowStage w nv count ops operands records stack 0 0
  rows_start stack r = record {
    room = r.room;
    lanes = λ j h.
        stage_start w (part_at nv records j) count ops operands (lane_of j stack) (omega (arith, lane-long j stack, formula-short nv count ops operands r.formula))
        (ap (λ (n : ℕ). is_formula n (tokens count ops operands)) (record_long nv records r.long j h) ∙ r.formula);
  }

  module _ (stack : List ℕ) (sp i : ℕ) (s : RowStage w nv count ops operands records stack sp i) where
    pub rows_low : (sp ≤ i) × (count ≤ 64)
    rows_low = let f = s.lanes 0 (omega arith) in (f.room, f.most)

    pub rows_there : i < count → (t : Token) → token_at ops operands i ≡ t → arity t ≤ sp
    rows_there more t here = token_there w (part_at nv records 0) count ops operands (lane_of 0 stack) sp i (s.lanes 0 (omega arith)) more t here

    pub rows-may : length records ≡ nv * 16 → i < count → (t : Token) → token_at ops operands i ≡ t → known nv t ≡ true
    rows-may long more t here =
        ap (λ (n : ℕ). known n t) (sym (record_long nv records long 0 (omega arith)))
        ∙ token_may w (part_at nv records 0) count ops operands (lane_of 0 stack) sp i (s.lanes 0 (omega arith)) more t here

    pub rows_on : i < count → (t : Token) → token_at ops operands i ≡ t → (base : ℕ) (row : List ℕ) → base + arity t ≡ sp → length row ≡ 16
        → ((j : ℕ) → j < 16 → get_or row j 0 ≡ leaves (value_alg w (part_at nv records j)) t (get_or stack (16 * (sp - 2) + j) 0) (get_or stack (16 * (sp - 1) + j) 0))
        → RowStage w nv count ops operands records (put_part 16 stack base row) (base + 1) (i + 1)
    rows_on more t here base row e wide left = record {
      room = length-put 16 stack base row (omega (arith, s.room, rows_low.0, rows_low.1)) wide ∙ s.room;
      lanes = λ j h.
          subst (λ (l : List ℕ). Stage w (part_at nv records j) count ops operands l (base + 1) (i + 1))
          (sym (lane-put j stack base row s.room wide (omega (arith, rows_low.0, rows_low.1)) h))
          (token_on w (part_at nv records j) count ops operands (lane_of j stack) sp i (s.lanes j h) more t here base (get_or row j 0) e
          (left j h
          ∙ ap₂ (λ (a b : ℕ). leaves (value_alg w (part_at nv records j)) t a b)
          (sym (lane-at j stack (sp - 2) (omega (arith, rows_low.0, rows_low.1))))
          (sym (lane-at j stack (sp - 1) (omega (arith, rows_low.0, rows_low.1))))));
    }

    pub rows_end : count ≤ i → (j : ℕ) → j < 16 → get_or (part_at 16 stack 0) j 0 ≡ value_of w (part_at nv records j) (tokens count ops operands)
    rows_end h j lane =
        get_d_part 16 stack 0 j lane
        ∙ sym (lane-at j stack 0 (omega arith))
        ∙ stage_end w (part_at nv records j) count ops operands (lane_of j stack) sp i (s.lanes j lane) h
