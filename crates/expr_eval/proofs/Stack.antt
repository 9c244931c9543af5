-- The stack in an array, and one turn of the evaluator. Assumes nothing.
use Rattle.expr.proofs.Testing.{formula-short}
use mathlib.Core.Path.{◌≡◌, refl, sym, ap, ap₂, ◌∙◌}
use mathlib.Core.Logic.{◌⊎◌, inl, inr}
use mathlib.Core.Bool.{true, ◌&&◌}
use mathlib.Core.List.{List, [], ◌∷◌}
use mathlib.Core.Option.{Option, some}
use Prim.Native.Nat.{ℕ, zero, suc, ◌+◌, ◌%◌, ◌^◌, ◌≤◌, ◌<◌}
use native.Mathlib.Numerals.{add-one}
use native.Mathlib.Omega.{arith}
use borrow.Author.Tests.{ltb-true}
use lib.ListN.{length, get_or, set, drop, length-set, drop_of_length-le}
use lib.Seq.{get_or-set_same, get_or-set_other}
use Rattle.arith.specs.Word.{not_of, neg_of}
use Rattle.row_gates.specs.Gates.{gate_of}
use Rattle.row_gates.specs.declared.Gate.{Gate}
use Rattle.expr.specs.declared.Token.{Token}
use Rattle.expr.specs.declared.Token.TheVariants.{Constant, Variable, Binary, Not, Neg, Bad}
use Rattle.expr.specs.Formula.{token_at, tokens, step, run, only, whole, or_else, known, all_known, is_formula}
use Rattle.expr.proofs.Tokens.{tokens-length, tokens-next}
use Rattle.limits.proofs.Refusals.{and_left, and_right}
use Rattle.expr.proofs.Machine.{none≢some, passed}
use Rattle.expr.proofs.Trees.{whole_tree, formed}
use Rattle.expr_eval.specs.Value.{value_alg, value_of}

-- the first n places of an array as a stack, the last of them on top
unfoldable pub stack_of : List ℕ → ℕ → List ℕ
stack_of arr zero = []
stack_of arr (suc n) = get_or arr n 0 ∷ stack_of arr n

stack_set : (arr : List ℕ) (i v n : ℕ) → n ≤ i → stack_of (set arr i v) n ≡ stack_of arr n
unfolding stack_of
stack_set arr i v zero h = refl
stack_set arr i v (suc n) h =
    ap₂ (λ (x : ℕ) (l : List ℕ). x ∷ l) (get_or-set_other arr i n v 0 (λ e. omega arith)) (stack_set arr i v n (omega arith))

stack_push : (arr : List ℕ) (i v : ℕ) → i < length arr → stack_of (set arr i v) (suc i) ≡ v ∷ stack_of arr i
unfolding stack_of
stack_push arr i v h =
    ap₂ (λ (x : ℕ) (l : List ℕ). x ∷ l) (get_or-set_same arr i v 0 h) (stack_set arr i v i (omega arith))

-- the value of what passes is what the machine leaves
pub value-some : (nv w : ℕ) (words : List ℕ) (ts : List Token) → is_formula nv ts ≡ true → whole (value_alg w words) ts ≡ some (value_of w words ts)
unfolding value_of or_else
value-some nv w words ts h =
    let f = formed ts (passed nv ts h).one in
    let e = ap (whole (value_alg w words)) (sym f.text) ∙ whole_tree (value_alg w words) f.tree in
    e ∙ sym (ap (λ (x : Option ℕ). some (or_else 0 x)) e)

-- reading the rest from place i over the first sp places of the array gives the value
pub record Stage (w : ℕ) (words : List ℕ) (count : ℕ) (ops operands arr : List ℕ) (sp i : ℕ) : Type 0 where
  pub long : count ≤ length arr
  pub most : count ≤ 64
  pub room : sp ≤ i
  pub at : i ≤ count
  pub all : all_known (length words) (drop i (tokens count ops operands)) ≡ true
  pub rest : only (run (value_alg w words) (drop i (tokens count ops operands)) (stack_of arr sp)) ≡ some (value_of w words (tokens count ops operands))

pub stage_start : (w : ℕ) (words : List ℕ) (count : ℕ) (ops operands arr : List ℕ) → count ≤ length arr → is_formula (length words) (tokens count ops operands) ≡ true → Stage w words count ops operands arr 0 0
unfolding stack_of whole
stage_start w words count ops operands arr h k =
    let p = passed (length words) (tokens count ops operands) k in
    record {
      long = h;
      most = formula-short (length words) count ops operands k;
      room = omega arith;
      at = omega arith;
      all = p.all;
      rest = value-some (length words) w words (tokens count ops operands) k;
    }

module _ (w : ℕ) (words : List ℕ) (count : ℕ) (ops operands arr : List ℕ) (sp i : ℕ) (s : Stage w words count ops operands arr sp i) where
  ts : List Token
  ts = tokens count ops operands

  -- at the end one word is left, and it is the value
  end_one : (n : ℕ) → only {A = ℕ} (some (stack_of arr n)) ≡ some (value_of w words ts) → get_or arr 0 0 ≡ value_of w words ts
  unfolding only stack_of
  end_one zero e = absurd (none≢some e)
  end_one (suc zero) e = cc
  end_one (suc (suc n)) e = absurd (none≢some e)

  end_low : (n : ℕ) → only {A = ℕ} (some (stack_of arr n)) ≡ some (value_of w words ts) → 1 ≤ n
  unfolding only stack_of
  end_low zero e = absurd (none≢some e)
  end_low (suc n) e = omega arith

  end_here : count ≤ i → only {A = ℕ} (some (stack_of arr sp)) ≡ some (value_of w words ts)
  unfolding run ts
  end_here h =
      let le : length (tokens count ops operands) ≤ i = omega (arith, tokens-length ops operands count) in
      ap (λ (l : List Token). only (run (value_alg w words) l (stack_of arr sp))) (sym (drop_of_length-le (tokens count ops operands) le)) ∙ s.rest

  pub stage_left : count ≤ i → 1 ≤ length arr
  stage_left h = omega (arith, end_low sp (end_here h), s.long, s.room, s.at)

  pub stage_end : count ≤ i → get_or arr 0 0 ≡ value_of w words (tokens count ops operands)
  unfolding ts
  stage_end h = end_one sp (end_here h)

  module _ (more : i < count) (t : Token) (here : token_at ops operands i ≡ t) where
    all_here : (known (length words) t && all_known (length words) (drop (i + 1) ts)) ≡ true
    unfolding all_known ts
    all_here = ap (all_known (length words)) (sym (tokens-next ops operands count i t more here)) ∙ s.all

    rest_here : only (run (value_alg w words) (t ∷ drop (i + 1) ts) (stack_of arr sp)) ≡ some (value_of w words ts)
    unfolding ts
    rest_here = ap (λ (l : List Token). only (run (value_alg w words) l (stack_of arr sp))) (sym (tokens-next ops operands count i t more here)) ∙ s.rest

    -- the word x at place base is what the token leaves over the places below it
    next : (base x n : ℕ) → n ≡ base + 1 → base ≤ sp → base < length arr
        → only (run (value_alg w words) (drop (i + 1) ts) (x ∷ stack_of arr base)) ≡ some (value_of w words ts) → Stage w words count ops operands (set arr base x) n (i + 1)
    unfolding ts
    next base x n e b l r = record {
      long = omega (arith, length-set arr base x, s.long);
      most = s.most;
      room = (let a = s.room in omega arith);
      at = omega arith;
      all = and_right (known (length words) t) (all_known (length words) (drop (i + 1) ts)) all_here;
      rest = ap (λ (l : List ℕ). only (run (value_alg w words) (drop (i + 1) ts) l)) (ap (stack_of (set arr base x)) (e ∙ add-one base) ∙ stack_push arr base x l) ∙ r;
    }

    -- each token in turn
    module _ (x : ℕ) where
      pub stage_constant : (k : ℕ) → t ≡ Constant k → x ≡ k % 2 ^ w → Stage w words count ops operands (set arr sp x) (sp + 1) (i + 1)
      unfolding run step value_alg
      stage_constant k e v =
          next sp x (sp + 1) refl (omega arith) (let a = s.long in let b = s.room in let d = s.most in omega arith)
          (ap (λ (y : ℕ). only (run (value_alg w words) (drop (i + 1) ts) (y ∷ stack_of arr sp))) v
          ∙ ap (λ (u : Token). only (run (value_alg w words) (u ∷ drop (i + 1) ts) (stack_of arr sp))) (sym e)
          ∙ rest_here)

      pub stage_variable : (k : ℕ) → t ≡ Variable k → x ≡ get_or words k 0 % 2 ^ w → Stage w words count ops operands (set arr sp x) (sp + 1) (i + 1)
      unfolding run step value_alg
      stage_variable k e v =
          next sp x (sp + 1) refl (omega arith) (let a = s.long in let b = s.room in let d = s.most in omega arith)
          (ap (λ (y : ℕ). only (run (value_alg w words) (drop (i + 1) ts) (y ∷ stack_of arr sp))) v
          ∙ ap (λ (u : Token). only (run (value_alg w words) (u ∷ drop (i + 1) ts) (stack_of arr sp))) (sym e)
          ∙ rest_here)

      pub stage_not : (base : ℕ) → sp ≡ base + 1 → t ≡ Not → x ≡ not_of (2 ^ w) (get_or arr base 0) → Stage w words count ops operands (set arr base x) sp (i + 1)
      unfolding run step value_alg stack_of
      stage_not base p e v =
          next base x sp p (omega arith) (let a = s.long in let b = s.room in let d = s.most in omega arith)
          (ap (λ (y : ℕ). only (run (value_alg w words) (drop (i + 1) ts) (y ∷ stack_of arr base))) v
          ∙ ap₂ (λ (u : Token) (n : ℕ). only (run (value_alg w words) (u ∷ drop (i + 1) ts) (stack_of arr n))) (sym e) (sym (p ∙ add-one base))
          ∙ rest_here)

      pub stage_neg : (base : ℕ) → sp ≡ base + 1 → t ≡ Neg → x ≡ neg_of (2 ^ w) (get_or arr base 0) → Stage w words count ops operands (set arr base x) sp (i + 1)
      unfolding run step value_alg stack_of
      stage_neg base p e v =
          next base x sp p (omega arith) (let a = s.long in let b = s.room in let d = s.most in omega arith)
          (ap (λ (y : ℕ). only (run (value_alg w words) (drop (i + 1) ts) (y ∷ stack_of arr base))) v
          ∙ ap₂ (λ (u : Token) (n : ℕ). only (run (value_alg w words) (u ∷ drop (i + 1) ts) (stack_of arr n))) (sym e) (sym (p ∙ add-one base))
          ∙ rest_here)

      pub stage_gate : (base left : ℕ) → sp ≡ base + 1 → base ≡ left + 1 → (g : Gate) → t ≡ Binary g → x ≡ gate_of g w (get_or arr left 0) (get_or arr base 0)
          → Stage w words count ops operands (set arr left x) base (i + 1)
      unfolding run step value_alg stack_of
      stage_gate base left p q g e v =
          next left x base q (omega arith) (let a = s.long in let b = s.room in let d = s.most in omega arith)
          (ap (λ (y : ℕ). only (run (value_alg w words) (drop (i + 1) ts) (y ∷ stack_of arr left))) (v ∙ ap (λ (n : ℕ). gate_of g w (get_or arr left 0) (get_or arr n 0)) (q ∙ add-one left))
          ∙ ap₂ (λ (u : Token) (n : ℕ). only (run (value_alg w words) (u ∷ drop (i + 1) ts) (stack_of arr n))) (sym e) (sym (p ∙ ap (λ (n : ℕ). n + 1) (q ∙ add-one left) ∙ add-one (suc left)))
          ∙ rest_here)

    -- what a token needs is there
    unary_low : (u : Token) (n : ℕ) → (u ≡ Not) ⊎ (u ≡ Neg) → only (run (value_alg w words) (u ∷ drop (i + 1) ts) (stack_of arr n)) ≡ some (value_of w words ts) → 1 ≤ n
    unfolding run step stack_of only
    unary_low u zero (inl e) r = absurd (none≢some (ap (λ (y : Token). only (run (value_alg w words) (y ∷ drop (i + 1) ts) [])) (sym e) ∙ r))
    unary_low u zero (inr e) r = absurd (none≢some (ap (λ (y : Token). only (run (value_alg w words) (y ∷ drop (i + 1) ts) [])) (sym e) ∙ r))
    unary_low u (suc n) e r = omega arith

    gate-low : (g : Gate) (n : ℕ) → only (run (value_alg w words) (Binary g ∷ drop (i + 1) ts) (stack_of arr n)) ≡ some (value_of w words ts) → 2 ≤ n
    unfolding run step stack_of only
    gate-low g zero r = absurd (none≢some r)
    gate-low g (suc zero) r = absurd (none≢some r)
    gate-low g (suc (suc n)) r = omega arith

    never-bad : only (run (value_alg w words) (Bad ∷ drop (i + 1) ts) (stack_of arr sp)) ≡ some (value_of w words ts) → ⊥
    unfolding run step only
    never-bad r = none≢some r

    pub stage_unary : (t ≡ Not) ⊎ (t ≡ Neg) → 1 ≤ sp
    stage_unary e = unary_low t sp e rest_here

    pub stage_binary : (g : Gate) → t ≡ Binary g → 2 ≤ sp
    stage_binary g e = gate-low g sp (ap (λ (u : Token). only (run (value_alg w words) (u ∷ drop (i + 1) ts) (stack_of arr sp))) (sym e) ∙ rest_here)

    pub stage_bad : t ≡ Bad → ⊥
    stage_bad e = never-bad (ap (λ (u : Token). only (run (value_alg w words) (u ∷ drop (i + 1) ts) (stack_of arr sp))) (sym e) ∙ rest_here)

    pub stage_word : (k : ℕ) → t ≡ Variable k → k < length words
    unfolding known
    stage_word k e =
        ltb-true k (length words) (ap (known (length words)) (sym e) ∙ and_left (known (length words) t) (all_known (length words) (drop (i + 1) ts)) all_here)
