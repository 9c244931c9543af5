-- One turn of the evaluator that tests: the test of the rest is the test of all, and where all passes the stack holds what the evaluator's
-- would. Assumes nothing.
use mathlib.Core.Path.{◌≡◌, sym, ap, ◌∙◌, subst}
use mathlib.Core.Bool.{true, false, not}
use mathlib.Core.List.{List}
use Prim.Native.Nat.{ℕ, ◌+◌, ◌-◌, ◌%◌, ◌^◌, ◌≤◌, ◌<◌}
use native.Mathlib.Omega.{arith}
use borrow.Author.Tests.{lt-ltb, eq-eqb, ne_eqb}
use lib.ListN.{length, get_or, set, length-set}
use Rattle.arith.specs.Word.{not_of, neg_of}
use Rattle.limits.specs.Refusal.{refused, answer, refuse, outcome}
use Rattle.row_gates.specs.Gates.{gate_of}
use Rattle.row_gates.specs.declared.Gate.{Gate}
use Rattle.expr.specs.declared.Token.{Token}
use Rattle.expr.specs.declared.Token.TheVariants.{Constant, Variable, Binary, Not, Neg}
use Rattle.expr.specs.Formula.{token_at, tokens, arity, known, is_formula}
use Rattle.expr.proofs.Machine.{formula-more}
use Rattle.expr.proofs.Testing.{Testing, test-few, test-many, test-start, test_end, test_unknown, test_low, test-next}
use Rattle.expr_eval.specs.Value.{value_of}
use Rattle.expr_eval.specs.Answers.{checked}
use Rattle.expr_eval.proofs.Stack.{Stage, stage_start, stage_end, stage_constant, stage_variable, stage_not, stage_neg, stage_gate}

module _ (nv w : ℕ) (words : List ℕ) (count : ℕ) (ops operands : List ℕ) where
  -- what is answered, by the test
  pub check_fails : false ≡ is_formula nv (tokens count ops operands) → refused 6 ≡ checked nv w count ops operands words
  check_fails e = λ i. outcome (refuse (not (e i)) 6 0) (value_of w words (tokens count ops operands))

  pub check_answers : true ≡ is_formula nv (tokens count ops operands) → (v : ℕ) → v ≡ value_of w words (tokens count ops operands) → answer v ≡ checked nv w count ops operands words
  check_answers e v f = λ i. outcome (refuse (not (e i)) 6 0) (f i)

  pub check_few : count < 1 → refused 6 ≡ checked nv w count ops operands words
  check_few h = check_fails (test-few nv count ops operands h)

  pub check_many : 64 < count → refused 6 ≡ checked nv w count ops operands words
  check_many h = check_fails (test-many nv count ops operands h)

  -- at place i, over the first sp places of the array
  pub record Checking (arr : List ℕ) (sp i : ℕ) : Type 0 where
    pub long : count ≤ length arr
    pub test : Testing nv count ops operands sp i
    pub value : is_formula nv (tokens count ops operands) ≡ true → Stage w words count ops operands arr sp i

  pub check_start : nv ≤ length words → 1 ≤ count → count ≤ 64 → (arr : List ℕ) → count ≤ length arr → Checking arr 0 0
  check_start n l m arr h = record {
    long = h;
    test = test-start nv count ops operands l m;
    value = λ p. stage_start w words count ops operands arr h (formula-more nv (length words) n (tokens count ops operands) p);
  }

  module _ (arr : List ℕ) (sp i : ℕ) (s : Checking arr sp i) where
    pub check_end : count ≤ i → sp ≡ 1 → answer (get_or arr 0 0) ≡ checked nv w count ops operands words
    check_end h one =
        let e = sym (eq-eqb sp 1 one) ∙ test_end nv count ops operands sp i s.test h in
        check_answers e (get_or arr 0 0) (stage_end w words count ops operands arr sp i (s.value (sym e)) h)

    pub check_left : count ≤ i → (sp ≡ 1 → ⊥) → refused 6 ≡ checked nv w count ops operands words
    check_left h other = check_fails (sym (ne_eqb sp 1 other) ∙ test_end nv count ops operands sp i s.test h)

    module _ (more : i < count) (t : Token) (here : token_at ops operands i ≡ t) where
      -- an operand is missing
      pub check_low : (n : ℕ) → arity t ≡ n → sp < n → refused 6 ≡ checked nv w count ops operands words
      check_low n a h = check_fails (test_low nv count ops operands sp i s.test more t here (omega arith))

      pub check_unknown : known nv t ≡ false → refused 6 ≡ checked nv w count ops operands words
      check_unknown u = check_fails (test_unknown nv count ops operands sp i s.test more t here u)

      -- a known token over its operands: the word x at place base, over n places then
      next : (base x n : ℕ) → known nv t ≡ true → arity t ≤ sp → n ≡ sp - arity t + 1
          → (Stage w words count ops operands arr sp i → Stage w words count ops operands (set arr base x) n (i + 1)) → Checking (set arr base x) n (i + 1)
      next base x n u l e f = record {
        long = omega (arith, length-set arr base x, s.long);
        test = subst (λ (d : ℕ). Testing nv count ops operands d (i + 1)) (sym e) (test-next nv count ops operands sp i s.test more t here u l);
        value = λ p. f (s.value p);
      }

      -- each token in turn
      module _ (x : ℕ) where
        pub check_constant : (k : ℕ) → t ≡ Constant k → x ≡ k % 2 ^ w → Checking (set arr sp x) (sp + 1) (i + 1)
        unfolding known arity
        check_constant k e v =
            let a : arity t ≡ 0 = ap arity e in
            next sp x (sp + 1) (ap (known nv) e) (omega arith) (omega arith)
            (λ g. stage_constant w words count ops operands arr sp i g more t here x k e v)

        pub check_variable : (k : ℕ) → t ≡ Variable k → k < nv → x ≡ get_or words k 0 % 2 ^ w → Checking (set arr sp x) (sp + 1) (i + 1)
        unfolding known arity
        check_variable k e b v =
            let a : arity t ≡ 0 = ap arity e in
            next sp x (sp + 1) (ap (known nv) e ∙ lt-ltb k nv b) (omega arith) (omega arith)
            (λ g. stage_variable w words count ops operands arr sp i g more t here x k e v)

        pub check_not : (base : ℕ) → sp ≡ base + 1 → t ≡ Not → x ≡ not_of (2 ^ w) (get_or arr base 0) → Checking (set arr base x) sp (i + 1)
        unfolding known arity
        check_not base p e v =
            let a : arity t ≡ 1 = ap arity e in
            next base x sp (ap (known nv) e) (omega arith) (omega arith)
            (λ g. stage_not w words count ops operands arr sp i g more t here x base p e v)

        pub check_neg : (base : ℕ) → sp ≡ base + 1 → t ≡ Neg → x ≡ neg_of (2 ^ w) (get_or arr base 0) → Checking (set arr base x) sp (i + 1)
        unfolding known arity
        check_neg base p e v =
            let a : arity t ≡ 1 = ap arity e in
            next base x sp (ap (known nv) e) (omega arith) (omega arith)
            (λ g. stage_neg w words count ops operands arr sp i g more t here x base p e v)

        pub check_gate : (base left : ℕ) → sp ≡ base + 1 → base ≡ left + 1 → (g : Gate) → t ≡ Binary g → x ≡ gate_of g w (get_or arr left 0) (get_or arr base 0)
            → Checking (set arr left x) base (i + 1)
        unfolding known arity
        check_gate base left p q g e v =
            let a : arity t ≡ 2 = ap arity e in
            next left x base (ap (known nv) e) (omega arith) (omega arith)
            (λ h. stage_gate w words count ops operands arr sp i h more t here x base left p q g e v)
