-- Which opcodes may be picked: the choices of each depth, and what is true of the one that is picked. Assumes nothing.
use mathlib.Core.Path.{◌≡◌, refl, sym, ap, ap₂, ◌∙◌, subst}
use mathlib.Core.Bool.{Bool, true, false, ◌&&◌}
use mathlib.Core.Logic.{◌⊎◌, inl, inr}
use mathlib.Core.List.{List, [], ◌∷◌, ◌++◌}
use Prim.Native.Nat.{ℕ, zero, suc, ◌+◌, ◌-◌, ◌%◌, ◌≤◌, ◌<◌}
use native.Mathlib.Nat.{mod-lt}
use native.Mathlib.Omega.{arith}
use borrow.Author.Tests.{le-leb, lt-leb, leb-true}
use lib.Dec.{leb}
use lib.ListN.{length, get_or}
use Rattle.arrays.specs.Lists.{count_up, In, keep}
use Rattle.arrays.proofs.Lists.{in_at, in_up, keep_yes, keep_no, keep_append, keep_in, length-count, get_or-count}
use Rattle.limits.proofs.Refusals.{le_or_lt, and_both, and_left, and_right}
use Rattle.expr.specs.Formula.{token_of, arity}
use Rattle.load_draw.specs.Draw.{takes, can_leave_one, may_pick, choices, picked_by}

-- ---- how many values an opcode takes
pub takes_leaf : (o : ℕ) → o < 2 → takes o ≡ 0
unfolding arity token_of
takes_leaf zero h = refl
takes_leaf (suc zero) h = refl
takes_leaf (suc (suc o)) h = absurd (omega arith)

pub takes-gate : (o : ℕ) → 2 ≤ o → o < 7 → takes o ≡ 2
unfolding arity token_of
takes-gate zero l h = absurd (omega arith)
takes-gate (suc zero) l h = absurd (omega arith)
takes-gate (suc (suc zero)) l h = refl
takes-gate (suc (suc (suc zero))) l h = refl
takes-gate (suc (suc (suc (suc zero)))) l h = refl
takes-gate (suc (suc (suc (suc (suc zero))))) l h = refl
takes-gate (suc (suc (suc (suc (suc (suc zero)))))) l h = refl
takes-gate (suc (suc (suc (suc (suc (suc (suc o))))))) l h = absurd (omega arith)

pub takes_sign : (o : ℕ) → 7 ≤ o → o < 9 → takes o ≡ 1
unfolding arity token_of
takes_sign zero l h = absurd (omega arith)
takes_sign (suc zero) l h = absurd (omega arith)
takes_sign (suc (suc zero)) l h = absurd (omega arith)
takes_sign (suc (suc (suc zero))) l h = absurd (omega arith)
takes_sign (suc (suc (suc (suc zero)))) l h = absurd (omega arith)
takes_sign (suc (suc (suc (suc (suc zero))))) l h = absurd (omega arith)
takes_sign (suc (suc (suc (suc (suc (suc zero)))))) l h = absurd (omega arith)
takes_sign (suc (suc (suc (suc (suc (suc (suc zero))))))) l h = refl
takes_sign (suc (suc (suc (suc (suc (suc (suc (suc zero)))))))) l h = refl
takes_sign (suc (suc (suc (suc (suc (suc (suc (suc (suc o))))))))) l h = absurd (omega arith)

-- ---- the test of an opcode that takes k values
pub can_yes : (d r : ℕ) → 1 ≤ d + r → d ≤ r + 1 → can_leave_one d r ≡ true
unfolding can_leave_one
can_yes d r a b = and_both (le-leb (1 - d) r (omega arith)) (le-leb (d - 1) r (omega arith))

pub can_least : (d r : ℕ) → can_leave_one d r ≡ true → 1 ≤ d + r
unfolding can_leave_one
can_least d r h = let m = leb-true (1 - d) r (and_left (leb (1 - d) r) (leb (d - 1) r) h) in omega arith

pub can_most : (d r : ℕ) → can_leave_one d r ≡ true → d ≤ r + 1
unfolding can_leave_one
can_most d r h = let m = leb-true (d - 1) r (and_right (leb (1 - d) r) (leb (d - 1) r) h) in omega arith

module _ (d r o k : ℕ) (e : takes o ≡ k) where
  by : (b : Bool) → (leb k d && can_leave_one (d - k + 1) r) ≡ b → may_pick d r o ≡ b
  unfolding may_pick
  by b h = ap (λ (n : ℕ). leb n d && can_leave_one (d - n + 1) r) e ∙ h

  pub may_yes : k ≤ d → d ≤ r + k → may_pick d r o ≡ true
  may_yes a b = by true (and_both (le-leb k d a) (can_yes (d - k + 1) r (omega arith) (omega arith)))

  pub may-few : d < k → may_pick d r o ≡ false
  may-few a = by false (ap (λ (b : Bool). b && can_leave_one (d - k + 1) r) (lt-leb k d a))

  pub may-many : k ≤ d → r + k < d → may_pick d r o ≡ false
  unfolding can_leave_one
  may-many a b = by false (simp (le-leb k d a, le-leb (1 - (d - k + 1)) r (omega arith), lt-leb (d - k + 1 - 1) r (omega arith)))

-- what may be picked has its operands, and leaves a rest that can leave one value
module _ (d r o : ℕ) (h : may_pick d r o ≡ true) where
  pub may-takes : takes o ≤ d
  unfolding may_pick
  may-takes = leb-true (takes o) d (and_left (leb (takes o) d) (can_leave_one (d - takes o + 1) r) h)

  pub may-rest : can_leave_one (d - takes o + 1) r ≡ true
  unfolding may_pick
  may-rest = and_right (leb (takes o) d) (can_leave_one (d - takes o + 1) r) h

-- ---- the choices
-- counting up, or nothing
unfoldable run_of : Bool → ℕ → ℕ → List ℕ
unfolding count_up
run_of true i n = count_up i n
run_of false i n = []

keep_run : (test : ℕ → Bool) (b : Bool) (i n : ℕ) → ((o : ℕ) → i ≤ o → o < i + n → test o ≡ b) → keep test (count_up i n) ≡ run_of b i n
unfolding keep count_up run_of
keep_run test true i zero h = refl
keep_run test false i zero h = refl
keep_run test true i (suc n) h =
    keep_yes test i (count_up (suc i) n) (h i (omega arith) (omega arith))
    ∙ ap (λ (l : List ℕ). i ∷ l) (keep_run test true (suc i) n (λ o a b. h o (omega arith) (omega arith)))
keep_run test false i (suc n) h =
    keep_no test i (count_up (suc i) n) (h i (omega arith) (omega arith)) ∙ keep_run test false (suc i) n (λ o a b. h o (omega arith) (omega arith))

-- leaves, gates and signs may be picked or not, each kind as a whole
kinds : (d r : ℕ) (leaf gate sign : Bool)
    → ((o : ℕ) → takes o ≡ 0 → may_pick d r o ≡ leaf)
    → ((o : ℕ) → takes o ≡ 2 → may_pick d r o ≡ gate)
    → ((o : ℕ) → takes o ≡ 1 → may_pick d r o ≡ sign)
    → choices d r ≡ run_of leaf 0 2 ++ (run_of gate 2 5 ++ run_of sign 7 2)
unfolding choices count_up
kinds d r leaf gate sign f g h =
    keep_append (may_pick d r) (count_up 0 2) (count_up 2 7)
    ∙ ap₂ (λ (a b : List ℕ). a ++ b)
    (keep_run (may_pick d r) leaf 0 2 (λ o a b. f o (takes_leaf o b)))
    (keep_append (may_pick d r) (count_up 2 5) (count_up 7 2)
    ∙ ap₂ (λ (a b : List ℕ). a ++ b)
    (keep_run (may_pick d r) gate 2 5 (λ o a b. g o (takes-gate o a b)))
    (keep_run (may_pick d r) sign 7 2 (λ o a b. h o (takes_sign o a b))))

-- no value: leaves
pub choices-none : (r : ℕ) → choices 0 r ≡ count_up 0 2
unfolding run_of count_up
choices-none r =
    kinds 0 r true false false
    (λ o e. may_yes 0 r o 0 e (omega arith) (omega arith))
    (λ o e. may-few 0 r o 2 e (omega arith))
    (λ o e. may-few 0 r o 1 e (omega arith))

-- one value: Not and Neg, and leaves where there are tokens to come
pub choices-last : choices 1 0 ≡ count_up 7 2
unfolding run_of count_up
choices-last =
    kinds 1 0 false false true
    (λ o e. may-many 1 0 o 0 e (omega arith) (omega arith))
    (λ o e. may-few 1 0 o 2 e (omega arith))
    (λ o e. may_yes 1 0 o 1 e (omega arith) (omega arith))

pub choices-one : (r : ℕ) → 1 ≤ r → choices 1 r ≡ count_up 0 2 ++ count_up 7 2
unfolding run_of
choices-one r h =
    kinds 1 r true false true
    (λ o e. may_yes 1 r o 0 e (omega arith) (omega arith))
    (λ o e. may-few 1 r o 2 e (omega arith))
    (λ o e. may_yes 1 r o 1 e (omega arith) (omega arith))

-- more values: all of them; no leaf; gates alone
module _ (d r : ℕ) (two : 2 ≤ d) where
  pub choices-all : d ≤ r → choices d r ≡ count_up 0 9
  unfolding run_of count_up
  choices-all h =
      kinds d r true true true
      (λ o e. may_yes d r o 0 e (omega arith) (omega arith))
      (λ o e. may_yes d r o 2 e (omega arith) (omega arith))
      (λ o e. may_yes d r o 1 e (omega arith) (omega arith))

  pub choices-narrow : d ≡ r + 1 → choices d r ≡ count_up 2 7
  unfolding run_of count_up
  choices-narrow h =
      kinds d r false true true
      (λ o e. may-many d r o 0 e (omega arith) (omega arith))
      (λ o e. may_yes d r o 2 e (omega arith) (omega arith))
      (λ o e. may_yes d r o 1 e (omega arith) (omega arith))

  pub choices-gates : d ≡ r + 2 → choices d r ≡ count_up 2 5
  unfolding run_of count_up
  choices-gates h =
      kinds d r false true false
      (λ o e. may-many d r o 0 e (omega arith) (omega arith))
      (λ o e. may_yes d r o 2 e (omega arith) (omega arith))
      (λ o e. may-many d r o 1 e (omega arith) (omega arith))

-- ---- what is picked
-- of a run of opcodes, the first and then as many more as the remainder is
pub picked_run : (d r word i n : ℕ) → 0 < n → choices d r ≡ count_up i n → picked_by d r word ≡ i + word % n
unfolding picked_by
picked_run d r word i n h e =
    ap (λ (l : List ℕ). get_or l (word % length l) 0) e
    ∙ ap (λ (m : ℕ). get_or (count_up i n) (word % m) 0) (length-count i n)
    ∙ get_or-count i n (word % n) 0 (mod-lt word h)

low : (k : ℕ) → k < 2 → get_or (count_up 0 2 ++ count_up 7 2) k 0 ≡ k
unfolding count_up
low zero h = refl
low (suc zero) h = refl
low (suc (suc k)) h = absurd (omega arith)

high : (k : ℕ) → 2 ≤ k → k < 4 → get_or (count_up 0 2 ++ count_up 7 2) k 0 ≡ k + 5
unfolding count_up
high zero l h = absurd (omega arith)
high (suc zero) l h = absurd (omega arith)
high (suc (suc zero)) l h = refl
high (suc (suc (suc zero))) l h = refl
high (suc (suc (suc (suc k)))) l h = absurd (omega arith)

module _ (r word : ℕ) (some : 1 ≤ r) where
  of_four : picked_by 1 r word ≡ get_or (count_up 0 2 ++ count_up 7 2) (word % 4) 0
  unfolding picked_by count_up
  of_four = ap (λ (l : List ℕ). get_or l (word % length l) 0) (choices-one r some)

  pub picked_low : word % 4 < 2 → picked_by 1 r word ≡ word % 4
  picked_low h = of_four ∙ low (word % 4) h

  pub picked_high : 2 ≤ word % 4 → picked_by 1 r word ≡ word % 4 + 5
  picked_high h = of_four ∙ high (word % 4) h (omega arith)

-- there is a choice, as long as the tokens to come suffice
data Cases (d r : ℕ) : Type 0 where
  is_none : d ≡ 0 → Cases d r
  is_last : d ≡ 1 → r ≡ 0 → Cases d r
  is_one : d ≡ 1 → 1 ≤ r → Cases d r
  is_all : 2 ≤ d → d ≤ r → Cases d r
  is-narrow : 2 ≤ d → d ≡ r + 1 → Cases d r
  is-gates : 2 ≤ d → d ≡ r + 2 → Cases d r

cases : (d r : ℕ) → d ≤ r + 2 → Cases d r
cases zero r h = is_none refl
cases (suc zero) zero h = is_last refl refl
cases (suc zero) (suc r) h = is_one refl (omega arith)
cases (suc (suc d)) r h = go (le_or_lt (suc (suc d)) r) (le_or_lt (suc (suc d)) (r + 1))
  where
    go : (suc (suc d) ≤ r) ⊎ (r < suc (suc d)) → (suc (suc d) ≤ r + 1) ⊎ (r + 1 < suc (suc d)) → Cases (suc (suc d)) r
    go (inl a) b = is_all (omega arith) a
    go (inr a) (inl b) = is-narrow (omega arith) (omega arith)
    go (inr a) (inr b) = is-gates (omega arith) (omega arith)

pub some_choice : (d r : ℕ) → d ≤ r + 2 → 0 < length (choices d r)
unfolding count_up
some_choice d r h = go (cases d r h)
  where
    by : {l : List ℕ} → choices d r ≡ l → 0 < length l → 0 < length (choices d r)
    by e k = subst (λ (l : List ℕ). 0 < length l) (sym e) k

    go : Cases d r → 0 < length (choices d r)
    go (is_none a) = by (ap (λ (n : ℕ). choices n r) a ∙ choices-none r) (omega arith)
    go (is_last a b) = by (ap₂ (λ (n m : ℕ). choices n m) a b ∙ choices-last) (omega arith)
    go (is_one a b) = by (ap (λ (n : ℕ). choices n r) a ∙ choices-one r b) (omega arith)
    go (is_all a b) = by (choices-all d r a b) (omega arith)
    go (is-narrow a b) = by (choices-narrow d r a b) (omega arith)
    go (is-gates a b) = by (choices-gates d r a b) (omega arith)

-- so what is picked is an opcode that may be
module _ (d r word : ℕ) (h : d ≤ r + 2) where
  among : In (picked_by d r word) (choices d r)
  unfolding picked_by
  among = in_at 0 (choices d r) (word % length (choices d r)) (mod-lt word (some_choice d r h))

  pub picked_may : may_pick d r (picked_by d r word) ≡ true
  unfolding choices
  picked_may = (keep_in (may_pick d r) (count_up 0 9) (picked_by d r word) among).1

  pub picked_below : picked_by d r word < 9
  unfolding choices
  picked_below = in_up 9 (picked_by d r word) (keep_in (may_pick d r) (count_up 0 9) (picked_by d r word) among).0
