-- Spans of tokens: where the formula that ends at a place begins, the parts of a span and its cost. Assumes nothing.
use mathlib.Core.Path.{◌≡◌, refl, sym, ap, ap₂, ◌∙◌, subst}
use mathlib.Core.Bool.{Bool, true, false, cond}
use mathlib.Core.List.{List, [], ◌∷◌, ◌++◌, append_assoc}
use Prim.Native.Nat.{ℕ, zero, suc, ◌+◌, ◌-◌, ◌*◌, ◌≤◌, ◌<◌}
use native.Mathlib.Numerals.{add-one, add-two}
use native.Mathlib.Nat.{add-zero, zero-add, suc-add}
use native.Mathlib.Omega.{arith}
use lib.ListN.{length, get_or, take, drop, length-append, take-append-drop}
use lib.Seq.{take_at, drop_at, get_or_at}
use Rattle.row_gates.specs.declared.Gate.{Gate}
use Rattle.expr.specs.declared.Token.{Token}
use Rattle.expr.specs.declared.Token.TheVariants.{Constant, Variable, Binary, Not, Neg, Bad}
use Rattle.expr.specs.Formula.{token_at, tokens, leaves_one, is_formula, arity}
use Rattle.expr.specs.Tree.{Tree, written, fold}
use Rattle.expr.specs.Tree.Tree.{constant, variable, inverted, negated, gated}
use Rattle.expr.proofs.Tokens.{tokens-length, tokens-take}
use Rattle.expr.proofs.Machine.{passed}
use Rattle.expr.proofs.Trees.{Formed, formed, leaves-one_tree, written_pos}
use Rattle.expr.proofs.Formulas.{read_tree}
use Rattle.expr_cost.specs.declared.Cost.{Cost}
use Rattle.expr_cost.specs.declared.CostInfo.{CostInfo}
use Rattle.expr_cost.specs.Cost.{leaf_info, info_unary, info_gate, is_nonlinear, cost_alg, no_cost, info_of, cost_of, Roomy}
use Rattle.expr_cost.specs.Span.{back, span_of, Span, Ends, Under, span_leaf, span_unary, span_gate, cost_before}

-- ---- going back
module _ (ops operands : List ℕ) where
  back_none : (i : ℕ) → back ops operands i 0 ≡ i
  unfolding back
  back_none zero = refl
  back_none (suc i) = refl

  -- values taken one after the other
  back-add : (i m n : ℕ) → back ops operands i (m + n) ≡ back ops operands (back ops operands i m) n
  unfolding back
  back-add zero m n = refl
  back-add (suc i) zero n = ap (back ops operands (suc i)) (zero-add n)
  back-add (suc i) (suc m) n =
      let k = arity (token_at ops operands i) in
      let p : suc m + n ≡ suc (m + n) = suc-add m n in
      let q : m + n + k ≡ m + k + n = omega arith in
      ap (back ops operands (suc i)) p ∙ ap (back ops operands i) q ∙ back-add i (m + k) n

-- ---- the cost of a tree
pub info_tree : (t : Tree) → info_of (written t) ≡ fold cost_alg t
unfolding info_of
info_tree t = read_tree cost_alg (record { cost = no_cost; varies = false }) t

record Small (c : Cost) (n : ℕ) : Type 0 where
  size : c.size ≤ 3 * n
  products : c.products ≤ n
  depth : c.depth ≤ n

weight_le : (b : Bool) → cond b 3 1 ≤ 3
weight_le true = omega arith
weight_le false = omega arith

product_le : (b : Bool) → cond b 1 0 ≤ 1
product_le true = omega arith
product_le false = omega arith

small : (t : Tree) → Small (fold cost_alg t).cost (length (written t))
unfolding written fold cost_alg
small (constant k) = record { size = omega arith; products = omega arith; depth = omega arith }
small (variable i) = record { size = omega arith; products = omega arith; depth = omega arith }
small (inverted a) =
    let s = small a in
    let l : length (written a ++ (Not ∷ [])) ≡ length (written a) + 1 = length-append (written a) (Not ∷ []) in
    record { size = omega arith; products = omega arith; depth = omega arith }
small (negated a) =
    let s = small a in
    let l : length (written a ++ (Neg ∷ [])) ≡ length (written a) + 1 = length-append (written a) (Neg ∷ []) in
    record { size = omega arith; products = omega arith; depth = omega arith }
small (gated g a b) =
    let s = small a in
    let r = small b in
    let x = weight_le (is_nonlinear g (fold cost_alg a).varies (fold cost_alg b).varies) in
    let y = product_le (is_nonlinear g (fold cost_alg a).varies (fold cost_alg b).varies) in
    let l = length-append (written a) (written b ++ (Binary g ∷ [])) in
    let k = length-append (written b) (Binary g ∷ []) in
    record { size = omega arith; products = omega arith; depth = omega arith }

pub tree_roomy : (t : Tree) → length (written t) ≤ 64 → Roomy (info_of (written t)).cost
tree_roomy t h =
    let r = small t in
    subst (λ (c : CostInfo). Roomy c.cost) (sym (info_tree t)) (record { size = omega arith; products = omega arith; depth = omega arith })

-- ---- the last token
last_of : Tree → Token
last_of (constant k) = Constant k
last_of (variable i) = Variable i
last_of (inverted a) = Not
last_of (negated a) = Neg
last_of (gated g a b) = Binary g

-- what stands before it
front : Tree → List Token
front (constant k) = []
front (variable i) = []
front (inverted a) = written a
front (negated a) = written a
front (gated g a b) = written a ++ written b

front-last : (t : Tree) → written t ≡ front t ++ (last_of t ∷ [])
unfolding written front last_of
front-last (constant k) = refl
front-last (variable i) = refl
front-last (inverted a) = refl
front-last (negated a) = refl
front-last (gated g a b) = sym (append_assoc (written a) (written b) (Binary g ∷ []))

-- ---- a tree that stands from one place up to another
module _ (ops operands : List ℕ) where
  record Stands (from to : ℕ) (t : Tree) : Type 0 where
    text : tokens to ops operands ≡ tokens from ops operands ++ written t

  ends : {from to : ℕ} {t : Tree} → Stands from to t → from + length (written t) ≡ to
  ends {from} {to} {t} s =
      omega (arith, ap length s.text, length-append (tokens from ops operands) (written t), tokens-length ops operands from, tokens-length ops operands to)

  -- a front part of what stands there
  split : (from to : ℕ) (xs ys : List Token) → tokens to ops operands ≡ tokens from ops operands ++ (xs ++ ys) → tokens (from + length xs) ops operands ≡ tokens from ops operands ++ xs
  split from to xs ys e =
      let n = tokens-length ops operands from in
      let m : length (tokens from ops operands ++ xs) ≡ from + length xs = length-append (tokens from ops operands) xs ∙ ap (λ (k : ℕ). k + length xs) n in
      let le : from + length xs ≤ to =
      omega (arith, ap length e, length-append (tokens from ops operands) (xs ++ ys), length-append xs ys, tokens-length ops operands to) in
      sym (tokens-take ops operands (from + length xs) to le)
      ∙ ap (take (from + length xs)) (e ∙ sym (append_assoc (tokens from ops operands) xs ys))
      ∙ take_at (tokens from ops operands ++ xs) ys (from + length xs) m

  span_is : {from to : ℕ} {t : Tree} → Stands from to t → span_of ops operands from to ≡ written t
  unfolding span_of
  span_is {from} {to} {t} s = ap (drop from) s.text ∙ drop_at (tokens from ops operands) (written t) from (tokens-length ops operands from)

  info_is : {from to : ℕ} {t : Tree} → Stands from to t → info_of (span_of ops operands from to) ≡ fold cost_alg t
  info_is {t} s = ap info_of (span_is s) ∙ info_tree t

  span_of_lem : {from to : ℕ} {t : Tree} → Stands from to t → to ≤ 64 → Span ops operands from to
  span_of_lem {from} {to} {t} s h =
      let e = ends s in
      record { order = omega arith; most = h; one = ap leaves_one (span_is s) ∙ leaves-one_tree t }

  tree_of : (from to : ℕ) → Span ops operands from to → Formed (span_of ops operands from to)
  tree_of from to s = formed (span_of ops operands from to) s.one

  stands : (from to : ℕ) (s : Span ops operands from to) → Stands from to (tree_of from to s).tree
  unfolding span_of
  stands from to s = record {
    text =
        sym (take-append-drop from (tokens to ops operands))
        ∙ ap₂ (λ (x y : List Token). x ++ y) (tokens-take ops operands from to s.order) (sym (tree_of from to s).text);
  }

  -- the last token, and what stands before it
  before_last : {from to : ℕ} {t : Tree} → Stands from to t → tokens (to - 1) ops operands ≡ tokens from ops operands ++ front t
  before_last {from} {to} {t} s =
      let e = ends s in
      let p : to - 1 ≡ from + length (front t) = omega (arith, ap length (front-last t), length-append (front t) (last_of t ∷ [])) in
      ap (λ (k : ℕ). tokens k ops operands) p ∙ split from to (front t) (last_of t ∷ []) (s.text ∙ ap (λ (l : List Token). tokens from ops operands ++ l) (front-last t))

  last-is : {from to : ℕ} {t : Tree} → Stands from to t → token_at ops operands (to - 1) ≡ last_of t
  unfolding tokens
  last-is {from} {to} {t} s =
      let e = ends s in
      let w = written_pos t in
      let p : to ≡ suc (to - 1) = omega arith in
      let n = tokens-length ops operands (to - 1) in
      let q : tokens (to - 1) ops operands ++ (token_at ops operands (to - 1) ∷ []) ≡ tokens (to - 1) ops operands ++ (last_of t ∷ []) =
      sym (ap (λ (k : ℕ). tokens k ops operands) p)
      ∙ s.text
      ∙ ap (λ (l : List Token). tokens from ops operands ++ l) (front-last t)
      ∙ sym (append_assoc (tokens from ops operands) (front t) (last_of t ∷ []))
      ∙ ap (λ (l : List Token). l ++ (last_of t ∷ [])) (sym (before_last s)) in
      sym (get_or_at (tokens (to - 1) ops operands) (token_at ops operands (to - 1)) [] Bad (to - 1) n)
      ∙ ap (λ (l : List Token). get_or l (to - 1) Bad) q
      ∙ get_or_at (tokens (to - 1) ops operands) (last_of t) [] Bad (to - 1) n

  -- operands
  under_not : {from to : ℕ} {a : Tree} → Stands from to (inverted a) → Stands from (to - 1) a
  unfolding front
  under_not s = record { text = before_last s }

  under_neg : {from to : ℕ} {a : Tree} → Stands from to (negated a) → Stands from (to - 1) a
  unfolding front
  under_neg s = record { text = before_last s }

  left_of : {from to : ℕ} {g : Gate} {a b : Tree} → Stands from to (gated g a b) → Stands from (from + length (written a)) a
  unfolding front
  left_of {from} {to} {g} {a} {b} s = record { text = split from (to - 1) (written a) (written b) (before_last s) }

  right_of : {from to : ℕ} {g : Gate} {a b : Tree} → Stands from to (gated g a b) → Stands (from + length (written a)) (to - 1) b
  unfolding front
  right_of {from} {to} {g} {a} {b} s = record {
    text =
        before_last s
        ∙ sym (append_assoc (tokens from ops operands) (written a) (written b))
        ∙ ap (λ (l : List Token). l ++ written b) (sym (left_of s).text);
  }

  -- ---- going back over a tree
  one-back : (to n k : ℕ) (t : Token) → 0 < to → token_at ops operands (to - 1) ≡ t → n + arity t ≡ k → back ops operands to (suc n) ≡ back ops operands (to - 1) k
  unfolding back
  one-back zero n k t h e q = absurd (omega arith)
  one-back (suc i) n k t h e q =
      let p : i ≡ suc i - 1 = omega arith in
      ap₂ (λ (x y : ℕ). back ops operands x y) p (ap (λ (j : ℕ). n + arity (token_at ops operands j)) p ∙ ap (λ (u : Token). n + arity u) e ∙ q)

  back_tree : (t : Tree) (from to n : ℕ) → Stands from to t → back ops operands to (suc n) ≡ back ops operands from n
  unfolding last_of arity written
  back_tree (constant k) from to n s =
      let e = ends s in
      let p : to - 1 ≡ from = omega arith in
      one-back to n n (Constant k) (omega arith) (last-is s) (add-zero n) ∙ ap (λ (x : ℕ). back ops operands x n) p
  back_tree (variable i) from to n s =
      let e = ends s in
      let p : to - 1 ≡ from = omega arith in
      one-back to n n (Variable i) (omega arith) (last-is s) (add-zero n) ∙ ap (λ (x : ℕ). back ops operands x n) p
  back_tree (inverted a) from to n s =
      let e = ends s in
      one-back to n (suc n) Not (omega (arith, length-append (written a) (Not ∷ []))) (last-is s) (add-one n) ∙ back_tree a from (to - 1) n (under_not s)
  back_tree (negated a) from to n s =
      let e = ends s in
      one-back to n (suc n) Neg (omega (arith, length-append (written a) (Neg ∷ []))) (last-is s) (add-one n) ∙ back_tree a from (to - 1) n (under_neg s)
  back_tree (gated g a b) from to n s =
      let e = ends s in
      one-back to n (suc (suc n)) (Binary g) (omega (arith, length-append (written a) (written b ++ (Binary g ∷ [])), length-append (written b) (Binary g ∷ []))) (last-is s) (add-two n)
      ∙ back_tree b (from + length (written a)) (to - 1) (suc n) (right_of s)
      ∙ back_tree a from (from + length (written a)) n (left_of s)

  -- ---- what `cost_before` finds
  module _ (from to : ℕ) (s : Span ops operands from to) where
    span_pos : from < to
    span_pos = let e = ends (stands from to s) in omega (arith, written_pos (tree_of from to s).tree)

    span_roomy : Roomy (info_of (span_of ops operands from to)).cost
    span_roomy =
        let e = ends (stands from to s) in
        let m = s.most in
        subst (λ (l : List Token). Roomy (info_of l).cost) (sym (span_is (stands from to s))) (tree_roomy (tree_of from to s).tree (omega arith))

  -- a gate, and its two operands, of which the right one begins at `mid`
  record Gated (from mid to : ℕ) (g : Gate) : Type 0 where
    left : Span ops operands from mid
    right : Span ops operands mid (to - 1)
    cost : info_gate g (info_of (span_of ops operands from mid)) (info_of (span_of ops operands mid (to - 1))) ≡ info_of (span_of ops operands from to)

  record Unary (from to : ℕ) : Type 0 where
    operand : Span ops operands from (to - 1)
    cost : info_unary (info_of (span_of ops operands from (to - 1))) ≡ info_of (span_of ops operands from to)

  gate_parts : (from mid to : ℕ) (g : Gate) (t : Tree) → Stands from to t → to ≤ 64 → last_of t ≡ Binary g → mid ≡ back ops operands (to - 1) 1 → Gated from mid to g
  unfolding last_of fold cost_alg
  gate_parts from mid to g (constant k) s h e m = let z : ◌≡◌ {A = ℕ} 0 1 = cc in absurd (omega arith)
  gate_parts from mid to g (variable i) s h e m = let z : ◌≡◌ {A = ℕ} 0 1 = cc in absurd (omega arith)
  gate_parts from mid to g (inverted a) s h e m = let z : ◌≡◌ {A = ℕ} 0 1 = cc in absurd (omega arith)
  gate_parts from mid to g (negated a) s h e m = let z : ◌≡◌ {A = ℕ} 0 1 = cc in absurd (omega arith)
  gate_parts from mid to g (gated k a b) s h e m =
      let q : k ≡ g = cc in
      let p : from + length (written a) ≡ mid =
      sym (m ∙ back_tree b (from + length (written a)) (to - 1) 0 (right_of s) ∙ back_none ops operands (from + length (written a))) in
      let l : Stands from mid a = subst (λ (n : ℕ). Stands from n a) p (left_of s) in
      let r : Stands mid (to - 1) b = subst (λ (n : ℕ). Stands n (to - 1) b) p (right_of s) in
      let x = ends l in
      let y = ends r in
      record {
        left = span_of_lem l (omega arith);
        right = span_of_lem r (omega arith);
        cost = (λ i. info_gate (sym q i) (info_is l i) (info_is r i)) ∙ sym (info_is s);
      }

  unary_parts : (from to : ℕ) (t : Tree) → Stands from to t → to ≤ 64 → arity (last_of t) ≡ 1 → Unary from to
  unfolding last_of arity fold cost_alg
  unary_parts from to (constant k) s h e = absurd (omega arith)
  unary_parts from to (variable i) s h e = absurd (omega arith)
  unary_parts from to (inverted a) s h e =
      record { operand = span_of_lem (under_not s) (omega arith); cost = ap info_unary (info_is (under_not s)) ∙ sym (info_is s) }
  unary_parts from to (negated a) s h e =
      record { operand = span_of_lem (under_neg s) (omega arith); cost = ap info_unary (info_is (under_neg s)) ∙ sym (info_is s) }
  unary_parts from to (gated g a b) s h e = absurd (omega arith)

  constant_parts : (t : Tree) (k : ℕ) → last_of t ≡ Constant k → leaf_info false ≡ fold cost_alg t
  unfolding last_of fold cost_alg
  constant_parts (constant k) j e = refl
  constant_parts (variable i) j e = let z : ◌≡◌ {A = ℕ} 0 1 = cc in absurd (omega arith)
  constant_parts (inverted a) j e = let z : ◌≡◌ {A = ℕ} 0 1 = cc in absurd (omega arith)
  constant_parts (negated a) j e = let z : ◌≡◌ {A = ℕ} 0 1 = cc in absurd (omega arith)
  constant_parts (gated g a b) j e = let z : ◌≡◌ {A = ℕ} 0 1 = cc in absurd (omega arith)

  variable_parts : (t : Tree) (k : ℕ) → last_of t ≡ Variable k → leaf_info true ≡ fold cost_alg t
  unfolding last_of fold cost_alg
  variable_parts (constant k) j e = let z : ◌≡◌ {A = ℕ} 0 1 = cc in absurd (omega arith)
  variable_parts (variable i) j e = refl
  variable_parts (inverted a) j e = let z : ◌≡◌ {A = ℕ} 0 1 = cc in absurd (omega arith)
  variable_parts (negated a) j e = let z : ◌≡◌ {A = ℕ} 0 1 = cc in absurd (omega arith)
  variable_parts (gated g a b) j e = let z : ◌≡◌ {A = ℕ} 0 1 = cc in absurd (omega arith)

  bad_parts : (t : Tree) → last_of t ≡ Bad → ⊥
  unfolding last_of
  bad_parts (constant k) e = let z : ◌≡◌ {A = ℕ} 0 1 = cc in omega arith
  bad_parts (variable i) e = let z : ◌≡◌ {A = ℕ} 0 1 = cc in omega arith
  bad_parts (inverted a) e = let z : ◌≡◌ {A = ℕ} 0 1 = cc in omega arith
  bad_parts (negated a) e = let z : ◌≡◌ {A = ℕ} 0 1 = cc in omega arith
  bad_parts (gated g a b) e = let z : ◌≡◌ {A = ℕ} 0 1 = cc in omega arith

  module _ (from to : ℕ) (s : Span ops operands from to) (t : Token) (here : token_at ops operands (to - 1) ≡ t) where
    last_of_lem : last_of (tree_of from to s).tree ≡ t
    last_of_lem = sym (last-is (stands from to s)) ∙ here

    span_gate_lem : (g : Gate) → t ≡ Binary g → (mid : ℕ) → mid ≡ back ops operands (to - 1) 1 → Gated from mid to g
    span_gate_lem g e mid m = gate_parts from mid to g (tree_of from to s).tree (stands from to s) s.most (last_of_lem ∙ e) m

    span_unary_lem : arity t ≡ 1 → Unary from to
    span_unary_lem e = unary_parts from to (tree_of from to s).tree (stands from to s) s.most (ap arity last_of_lem ∙ e)

    span_constant : (k : ℕ) → t ≡ Constant k → leaf_info false ≡ info_of (span_of ops operands from to)
    span_constant k e = constant_parts (tree_of from to s).tree k (last_of_lem ∙ e) ∙ sym (info_is (stands from to s))

    span_variable : (k : ℕ) → t ≡ Variable k → leaf_info true ≡ info_of (span_of ops operands from to)
    span_variable k e = variable_parts (tree_of from to s).tree k (last_of_lem ∙ e) ∙ sym (info_is (stands from to s))

    span_bad : t ≡ Bad → ⊥
    span_bad e = bad_parts (tree_of from to s).tree (last_of_lem ∙ e)

  -- ---- the same of the formula that ends before a place
  back_last : (to n : ℕ) (t : Token) → 0 < to → token_at ops operands (to - 1) ≡ t → arity t ≡ n → back ops operands to 1 ≡ back ops operands (to - 1) n
  back_last to n t h e q = one-back to 0 n t h e (zero-add (arity t) ∙ q)

  pub ends_pos : (to : ℕ) → Ends ops operands to → 0 < to
  ends_pos to s = omega (arith, span_pos (back ops operands to 1) to s)

  pub ends_roomy : (to : ℕ) → Ends ops operands to → Roomy (cost_before ops operands to).info.cost
  unfolding cost_before
  ends_roomy to s = span_roomy (back ops operands to 1) to s

  module _ (to : ℕ) (s : Ends ops operands to) (t : Token) (here : token_at ops operands (to - 1) ≡ t) where
    leaf_before : (v : Bool) → arity t ≡ 0 → leaf_info v ≡ info_of (span_of ops operands (back ops operands to 1) to) → span_leaf v (to - 1) ≡ cost_before ops operands to
    unfolding cost_before
    leaf_before v a e =
        let p : to - 1 ≡ back ops operands to 1 = sym (back_last to 0 t (ends_pos to s) here a ∙ back_none ops operands (to - 1)) in
        λ i. record { info = e i; from = p i }

    pub constant-before : (k : ℕ) → t ≡ Constant k → span_leaf false (to - 1) ≡ cost_before ops operands to
    unfolding arity
    constant-before k e = leaf_before false (ap arity e) (span_constant (back ops operands to 1) to s t here k e)

    pub variable-before : (k : ℕ) → t ≡ Variable k → span_leaf true (to - 1) ≡ cost_before ops operands to
    unfolding arity
    variable-before k e = leaf_before true (ap arity e) (span_variable (back ops operands to 1) to s t here k e)

    pub bad-before : t ≡ Bad → ⊥
    bad-before e = span_bad (back ops operands to 1) to s t here e

  -- the last operand, which has fewer tokens than the whole
  pub record Last (to : ℕ) : Type 0 where
    pub ends : Ends ops operands (to - 1)
    pub shorter : to - 1 - back ops operands (to - 1) 1 < to - back ops operands to 1

  -- the left operand of a gate
  pub record Left (to : ℕ) (g : Gate) : Type 0 where
    pub ends : Ends ops operands (back ops operands (to - 1) 1)
    pub shorter : back ops operands (to - 1) 1 - back ops operands (back ops operands (to - 1) 1) 1 < to - back ops operands to 1
    pub cost : span_gate g (cost_before ops operands (back ops operands (to - 1) 1)) (cost_before ops operands (to - 1)) ≡ cost_before ops operands to

  module _ (to : ℕ) (t : Token) (u : Under ops operands to t) where
    pos : 0 < to
    pos = ends_pos to u.ends

    unary_begins : arity t ≡ 1 → back ops operands (to - 1) 1 ≡ back ops operands to 1
    unary_begins e = sym (back_last to 1 t pos u.last e)

    gate_begins : arity t ≡ 2 → back ops operands (back ops operands (to - 1) 1) 1 ≡ back ops operands to 1
    gate_begins e = sym (back_last to 2 t pos u.last e ∙ back-add ops operands (to - 1) 1 1)

    unary_of_lem : arity t ≡ 1 → Unary (back ops operands to 1) to
    unary_of_lem e = span_unary_lem (back ops operands to 1) to u.ends t u.last e

    gate_of_lem : (g : Gate) → t ≡ Binary g → Gated (back ops operands to 1) (back ops operands (to - 1) 1) to g
    gate_of_lem g e = span_gate_lem (back ops operands to 1) to u.ends t u.last g e (back ops operands (to - 1) 1) refl

    pub unary_before : arity t ≡ 1 → span_unary (cost_before ops operands (to - 1)) ≡ cost_before ops operands to
    unfolding cost_before
    unary_before e =
        let p = unary_begins e in
        let q = ap (λ (n : ℕ). info_unary (info_of (span_of ops operands n (to - 1)))) p ∙ (unary_of_lem e).cost in
        λ i. record { info = q i; from = p i }

    unary_last : arity t ≡ 1 → Last to
    unary_last e =
        let p = unary_begins e in
        let l : Ends ops operands (to - 1) = subst (λ (n : ℕ). Span ops operands n (to - 1)) (sym p) (unary_of_lem e).operand in
        record { ends = l; shorter = omega (arith, span_pos (back ops operands to 1) (to - 1) (unary_of_lem e).operand) }

    gate-last : (g : Gate) → t ≡ Binary g → Last to
    gate-last g e =
        let o = gate_of_lem g e in
        let l = span_pos (back ops operands to 1) (back ops operands (to - 1) 1) o.left in
        record { ends = o.right; shorter = omega (arith, span_pos (back ops operands (to - 1) 1) (to - 1) o.right) }

    pub gate-left : (g : Gate) → t ≡ Binary g → Left to g
    unfolding arity cost_before
    gate-left g e =
        let o = gate_of_lem g e in
        let p = gate_begins (ap arity e) in
        let l : Ends ops operands (back ops operands (to - 1) 1) = subst (λ (n : ℕ). Span ops operands n (back ops operands (to - 1) 1)) (sym p) o.left in
        let r = span_pos (back ops operands (to - 1) 1) (to - 1) o.right in
        let q = ap (λ (n : ℕ). info_gate g (info_of (span_of ops operands n (back ops operands (to - 1) 1))) (info_of (span_of ops operands (back ops operands (to - 1) 1) (to - 1)))) p ∙ o.cost in
        record {
          ends = l;
          shorter = omega (arith, span_pos (back ops operands to 1) (back ops operands (to - 1) 1) o.left);
          cost = λ i. record { info = q i; from = p i };
        }

  pub last_operand : (to : ℕ) (t : Token) → Under ops operands to t → Last to
  unfolding arity
  last_operand to (Constant k) u = let z = u.takes in absurd (omega arith)
  last_operand to (Variable i) u = let z = u.takes in absurd (omega arith)
  last_operand to (Binary g) u = gate-last to (Binary g) u g refl
  last_operand to Not u = unary_last to Not u refl
  last_operand to Neg u = unary_last to Neg u refl
  last_operand to Bad u = let z = u.takes in absurd (omega arith)

-- ---- what passes the test
module _ (nv count : ℕ) (ops operands : List ℕ) (h : is_formula nv (tokens count ops operands) ≡ true) where
  whole_span : Span ops operands 0 count
  unfolding span_of
  whole_span =
      let p = passed nv (tokens count ops operands) h in
      record { order = omega arith; most = subst (λ (n : ℕ). n ≤ 64) (tokens-length ops operands count) p.most; one = p.one }

  -- it begins at 0
  whole_begins : back ops operands count 1 ≡ 0
  whole_begins = back_tree ops operands (tree_of ops operands 0 count whole_span).tree 0 count 0 (stands ops operands 0 count whole_span) ∙ back_none ops operands 0

  pub whole-ends : Ends ops operands count
  whole-ends = subst (λ (n : ℕ). Span ops operands n count) (sym whole_begins) whole_span

  pub whole_info : (cost_before ops operands count).info ≡ info_of (tokens count ops operands)
  unfolding cost_before span_of
  whole_info = ap (λ (n : ℕ). info_of (span_of ops operands n count)) whole_begins

  pub whole-cost : (cost_before ops operands count).info.cost ≡ cost_of (tokens count ops operands)
  unfolding cost_before span_of
  whole-cost = ap (λ (n : ℕ). cost_of (span_of ops operands n count)) whole_begins
