-- The cursor walks the whole stock: from its first place all formulas are left, and each step takes the formula at its place off. Assumes nothing.
use mathlib.Core.Path.{◌≡◌, refl, sym, ap, ◌∙◌, subst}
use mathlib.Core.Bool.{Bool, true, false, cond}
use mathlib.Core.Logic.{◌⊎◌, inl, inr}
use mathlib.Core.List.{List, [], ◌∷◌, ◌++◌, flat_map, append_assoc}
use Prim.Native.Nat.{ℕ, zero, suc, ◌+◌, ◌-◌, ◌≤◌, ◌<◌}
use native.Mathlib.Nat.{sub-zero}
use native.Mathlib.Numerals.{add-one}
use native.Mathlib.Omega.{arith}
use lib.Dec.{eqb, ltb}
use borrow.Author.Tests.{eqb-true, ne_eqb, lt-ltb, le-ltb}
use Rattle.limits.proofs.Refusals.{le_or_lt, true_not_false}
use Rattle.row_gates.specs.declared.Gate.TheVariants.{Add}
use Rattle.expr.specs.declared.Token.{Token}
use Rattle.expr.specs.declared.Token.TheVariants as T
use Rattle.arrays.specs.Lists.{count_up}
use Rattle.bank_spec.specs.Stock.{constants, of_variable, gates_of, difference_of, stock}
use Rattle.bank_stock.specs.declared.Cursor.{Cursor}
use Rattle.bank_stock.specs.declared.Cursor.TheVariants.{Constant, Variable, Pair, Difference, Done}
use Rattle.bank_stock.specs.Cursor.{form_of, skipped, difference_from, next_of, first_of, is_done, WithinVariable, WithinPair, WithinDifference, Within, Stands, variables_from, pairs_of, pairs_from, differences_of, differences_from, rest_of}

-- ---- what is left of a count
module _ (f : ℕ → List (List Token)) where
  -- the next number gives its formulas first
  from_step : (i nv : ℕ) → i < nv → flat_map f (count_up i (nv - i)) ≡ f i ++ flat_map f (count_up (suc i) (nv - suc i))
  unfolding flat_map count_up
  from_step i nv h =
      let e : nv - i ≡ suc (nv - suc i) = omega arith in
      ap (λ (m : ℕ). flat_map f (count_up i m)) e

  -- past the last number nothing is left
  from_end : (i nv : ℕ) → nv ≤ i → flat_map f (count_up i (nv - i)) ≡ []
  unfolding flat_map count_up
  from_end i nv h =
      let e : nv - i ≡ 0 = omega arith in
      ap (λ (m : ℕ). flat_map f (count_up i m)) e

-- ---- from the first place on: the whole stock
pub first_rest : (nv w : ℕ) → rest_of nv w first_of ≡ stock nv w
unfolding rest_of stock
first_rest nv w =
    ap (λ (m : ℕ). constants w
    ++ (flat_map of_variable (count_up 0 m)
    ++ (flat_map (λ (i : ℕ). flat_map (gates_of i) (count_up i (nv - i))) (count_up 0 m)
    ++ flat_map (λ (i : ℕ). flat_map (difference_of i) (count_up 0 nv)) (count_up 0 m))))
    (sub-zero nv)

-- ---- the differences
-- i with itself gives none, i with another one
same_difference : (i j : ℕ) → eqb i j ≡ true → difference_of i j ≡ []
unfolding difference_of
same_difference i j e = rw (e, difference_of)

one_difference : (i j : ℕ) → eqb i j ≡ false → difference_of i j ≡ (T.Variable i ∷ (T.Variable j ∷ (T.Neg ∷ (T.Binary Add ∷ [])))) ∷ []
unfolding difference_of
one_difference i j e = rw (e, difference_of)

-- passing over i leaves the same formulas
skip_rest : (nv i j : ℕ) → i < nv → differences_of nv i j ≡ differences_of nv i (skipped i j)
skip_rest nv i j h = go (eqb i j) refl
  where
    go : (b : Bool) → eqb i j ≡ b → differences_of nv i j ≡ differences_of nv i (cond b (j + 1) j)
    go true e =
        let q : i ≡ j = eqb-true i j e in
        from_step (difference_of i) j nv (omega arith) ∙ ap (λ (z : List (List Token)). z ++ differences_of nv i (suc j)) (same_difference i j e)
        ∙ ap (λ (m : ℕ). differences_of nv i m) (sym (add-one j))
    go false e = refl

-- the differences of variable i, then those of the next
differences_step : (nv i : ℕ) → i < nv → differences_from nv i ≡ differences_of nv i 0 ++ differences_from nv (suc i)
differences_step nv i h =
    from_step (λ (k : ℕ). flat_map (difference_of k) (count_up 0 nv)) i nv h
    ∙ ap (λ (m : ℕ). flat_map (difference_of i) (count_up 0 m) ++ differences_from nv (suc i)) (sym (sub-zero nv))

-- from the first difference at or after i and j on, all of them are left
difference_rest : (nv w i j : ℕ) → i < nv → rest_of nv w (difference_from nv i j) ≡ differences_of nv i j ++ differences_from nv (suc i)
unfolding difference_from rest_of
difference_rest nv w i j h = go (skipped i j) (skip_rest nv i j h) (le_or_lt nv (skipped i j)) (le_or_lt nv (i + 1))
  where
    go : (s : ℕ) → differences_of nv i j ≡ differences_of nv i s → (nv ≤ s) ⊎ (s < nv) → (nv ≤ i + 1) ⊎ (i + 1 < nv)
        → rest_of nv w (cond (ltb s nv) (Difference i s) (cond (ltb (i + 1) nv) (Difference (i + 1) 0) Done)) ≡ differences_of nv i j ++ differences_from nv (suc i)
    go s e (inr m) y = rw (lt-ltb s nv m) (ap (λ (z : List (List Token)). z ++ differences_from nv (suc i)) (sym e))
    go s e (inl m) (inr y) =
        rw (le-ltb s nv m, lt-ltb (i + 1) nv y)
        (sym (ap (λ (z : List (List Token)). z ++ differences_from nv (suc i)) (e ∙ from_end (difference_of i) s nv m) ∙ differences_step nv (suc i) (omega arith)
        ∙ ap (λ (k : ℕ). differences_of nv k 0 ++ differences_from nv (suc k)) (sym (add-one i))))
    go s e (inl m) (inl y) =
        rw (le-ltb s nv m, le-ltb (i + 1) nv y)
        (sym (ap (λ (z : List (List Token)). z ++ differences_from nv (suc i)) (e ∙ from_end (difference_of i) s nv m)
        ∙ from_end (λ (k : ℕ). flat_map (difference_of k) (count_up 0 nv)) (suc i) nv (omega arith)))

-- ---- the gates
-- the gates from i on begin at i with itself
pairs-rest : (nv w i : ℕ) → i < nv → pairs_from nv i ++ differences_from nv 0 ≡ rest_of nv w (Pair i i 0)
unfolding rest_of
pairs-rest nv w i h =
    ap (λ (z : List (List Token)). z ++ differences_from nv 0) (from_step (λ (k : ℕ). pairs_of nv k k) i nv h ∙ ap (λ (z : List (List Token)). z ++ pairs_from nv (suc i)) (from_step (gates_of i) i nv h))
    ∙ append_assoc (gates_of i i ++ pairs_of nv i (suc i)) (pairs_from nv (suc i)) (differences_from nv 0)
    ∙ append_assoc (gates_of i i) (pairs_of nv i (suc i)) (pairs_from nv (suc i) ++ differences_from nv 0)

-- after the last gate of i and j
pair-rest : (nv w i j : ℕ) → i < nv
    → pairs_of nv i (suc j) ++ (pairs_from nv (suc i) ++ differences_from nv 0)
    ≡ rest_of nv w (cond (ltb (j + 1) nv) (Pair i (j + 1) 0) (cond (ltb (i + 1) nv) (Pair (i + 1) (i + 1) 0) (difference_from nv 0 0)))
unfolding rest_of
pair-rest nv w i j h = go (le_or_lt nv (j + 1)) (le_or_lt nv (i + 1))
  where
    go : (nv ≤ j + 1) ⊎ (j + 1 < nv) → (nv ≤ i + 1) ⊎ (i + 1 < nv)
        → pairs_of nv i (suc j) ++ (pairs_from nv (suc i) ++ differences_from nv 0)
        ≡ rest_of nv w (cond (ltb (j + 1) nv) (Pair i (j + 1) 0) (cond (ltb (i + 1) nv) (Pair (i + 1) (i + 1) 0) (difference_from nv 0 0)))
    go (inr m) y =
        rw (lt-ltb (j + 1) nv m, add-one j)
        (ap (λ (z : List (List Token)). z ++ (pairs_from nv (suc i) ++ differences_from nv 0)) (from_step (gates_of i) (suc j) nv (omega arith))
        ∙ append_assoc (gates_of i (suc j)) (pairs_of nv i (suc (suc j))) (pairs_from nv (suc i) ++ differences_from nv 0))
    go (inl m) (inr y) =
        rw (le-ltb (j + 1) nv m, lt-ltb (i + 1) nv y)
        (ap (λ (z : List (List Token)). z ++ (pairs_from nv (suc i) ++ differences_from nv 0)) (from_end (gates_of i) (suc j) nv (omega arith))
        ∙ pairs-rest nv w (suc i) (omega arith) ∙ ap (λ (k : ℕ). rest_of nv w (Pair k k 0)) (sym (add-one i)))
    go (inl m) (inl y) =
        rw (le-ltb (j + 1) nv m, le-ltb (i + 1) nv y)
        (ap (λ (z : List (List Token)). z ++ (pairs_from nv (suc i) ++ differences_from nv 0)) (from_end (gates_of i) (suc j) nv (omega arith))
        ∙ ap (λ (z : List (List Token)). z ++ differences_from nv 0) (from_end (λ (k : ℕ). pairs_of nv k k) (suc i) nv (omega arith))
        ∙ differences_step nv 0 (omega arith) ∙ sym (difference_rest nv w 0 0 (omega arith)))

-- ---- the variables
-- after the last form of variable i
variable-rest : (nv w i : ℕ) → i < nv
    → variables_from nv (suc i) ++ (pairs_from nv 0 ++ differences_from nv 0) ≡ rest_of nv w (cond (ltb (i + 1) nv) (Variable (i + 1) 0) (Pair 0 0 0))
unfolding rest_of
variable-rest nv w i h = go (le_or_lt nv (i + 1))
  where
    go : (nv ≤ i + 1) ⊎ (i + 1 < nv)
        → variables_from nv (suc i) ++ (pairs_from nv 0 ++ differences_from nv 0) ≡ rest_of nv w (cond (ltb (i + 1) nv) (Variable (i + 1) 0) (Pair 0 0 0))
    go (inr m) =
        rw (lt-ltb (i + 1) nv m, add-one i)
        (ap (λ (z : List (List Token)). z ++ (pairs_from nv 0 ++ differences_from nv 0)) (from_step of_variable (suc i) nv (omega arith))
        ∙ append_assoc (of_variable (suc i)) (variables_from nv (suc (suc i))) (pairs_from nv 0 ++ differences_from nv 0))
    go (inl m) =
        rw (le-ltb (i + 1) nv m)
        (ap (λ (z : List (List Token)). z ++ (pairs_from nv 0 ++ differences_from nv 0)) (from_end of_variable (suc i) nv (omega arith)) ∙ pairs-rest nv w 0 (omega arith))

-- ---- one step
-- each place has one formula, and what follows is left at the next place
step-rest : (nv w : ℕ) (c : Cursor) → 1 ≤ nv → Within nv c → is_done c ≡ false → rest_of nv w c ≡ form_of w c ∷ rest_of nv w (next_of nv c)
unfolding rest_of form_of next_of constants of_variable gates_of
step-rest nv w (Constant zero) h l d = refl
step-rest nv w (Constant (suc zero)) h l d = refl
step-rest nv w (Constant (suc (suc zero))) h l d = refl
step-rest nv w (Constant (suc (suc (suc zero)))) h l d =
    ap (λ (z : List (List Token)). form_of w (Constant 3) ∷ z)
    (ap (λ (z : List (List Token)). z ++ (pairs_from nv 0 ++ differences_from nv 0)) (from_step of_variable 0 nv (omega arith))
    ∙ append_assoc (of_variable 0) (variables_from nv 1) (pairs_from nv 0 ++ differences_from nv 0))
step-rest nv w (Constant (suc (suc (suc (suc k))))) h l d = absurd (omega arith)
step-rest nv w (Variable i zero) h l d = refl
step-rest nv w (Variable i (suc zero)) h l d = refl
step-rest nv w (Variable i (suc (suc zero))) h l d = ap (λ (z : List (List Token)). form_of w (Variable i 2) ∷ z) (variable-rest nv w i l.variable)
step-rest nv w (Variable i (suc (suc (suc k)))) h l d = absurd (omega (arith, l.form))
step-rest nv w (Pair i j zero) h l d = refl
step-rest nv w (Pair i j (suc zero)) h l d = refl
step-rest nv w (Pair i j (suc (suc zero))) h l d = refl
step-rest nv w (Pair i j (suc (suc (suc zero)))) h l d = refl
step-rest nv w (Pair i j (suc (suc (suc (suc zero))))) h l d =
    ap (λ (z : List (List Token)). form_of w (Pair i j 4) ∷ z) (pair-rest nv w i j (omega (arith, l.order, l.variable)))
step-rest nv w (Pair i j (suc (suc (suc (suc (suc k)))))) h l d = absurd (omega (arith, l.gate))
step-rest nv w (Difference i j) h l d =
    ap (λ (z : List (List Token)). z ++ differences_from nv (suc i))
    (from_step (difference_of i) j nv l.right ∙ ap (λ (z : List (List Token)). z ++ differences_of nv i (suc j)) (one_difference i j l.differ))
    ∙ ap (λ (z : List (List Token)). form_of w (Difference i j) ∷ z)
    (ap (λ (k : ℕ). differences_of nv i k ++ differences_from nv (suc i)) (sym (add-one j)) ∙ sym (difference_rest nv w i (j + 1) l.left))
step-rest nv w Done h l d = absurd (true_not_false d)

-- the place after a place is one of the stock's or the end
difference_within : (nv i j : ℕ) → i < nv → Within nv (difference_from nv i j)
unfolding difference_from
difference_within nv i j h = go (skipped i j) (apart (eqb i j) refl) (le_or_lt nv (skipped i j)) (le_or_lt nv (i + 1))
  where
    apart : (b : Bool) → eqb i j ≡ b → eqb i (cond b (j + 1) j) ≡ false
    apart true e = let q : i ≡ j = eqb-true i j e in ne_eqb i (j + 1) (λ (z : i ≡ j + 1). omega arith)
    apart false e = e

    go : (s : ℕ) → eqb i s ≡ false → (nv ≤ s) ⊎ (s < nv) → (nv ≤ i + 1) ⊎ (i + 1 < nv)
        → Within nv (cond (ltb s nv) (Difference i s) (cond (ltb (i + 1) nv) (Difference (i + 1) 0) Done))
    go s e (inr m) y = rw (lt-ltb s nv m) (record { left = h; right = m; differ = e })
    go s e (inl m) (inr y) =
        rw (le-ltb s nv m, lt-ltb (i + 1) nv y) (record { left = y; right = omega arith; differ = ne_eqb (i + 1) 0 (λ (z : i + 1 ≡ 0). omega arith) })
    go s e (inl m) (inl y) = rw (le-ltb s nv m, le-ltb (i + 1) nv y) tt

next-within : (nv : ℕ) (c : Cursor) → 1 ≤ nv → Within nv c → Within nv (next_of nv c)
unfolding next_of
next-within nv (Constant k) h l = go (le_or_lt 4 (k + 1))
  where
    go : (4 ≤ k + 1) ⊎ (k + 1 < 4) → Within nv (cond (ltb (k + 1) 4) (Constant (k + 1)) (Variable 0 0))
    go (inl m) = rw (le-ltb (k + 1) 4 m) (record { variable = omega arith; form = omega arith })
    go (inr m) = rw (lt-ltb (k + 1) 4 m) m
next-within nv (Variable i k) h l = go (le_or_lt 3 (k + 1)) (le_or_lt nv (i + 1))
  where
    go : (3 ≤ k + 1) ⊎ (k + 1 < 3) → (nv ≤ i + 1) ⊎ (i + 1 < nv)
        → Within nv (cond (ltb (k + 1) 3) (Variable i (k + 1)) (cond (ltb (i + 1) nv) (Variable (i + 1) 0) (Pair 0 0 0)))
    go (inr m) y = rw (lt-ltb (k + 1) 3 m) (record { variable = l.variable; form = m })
    go (inl m) (inr y) = rw (le-ltb (k + 1) 3 m, lt-ltb (i + 1) nv y) (record { variable = y; form = omega arith })
    go (inl m) (inl y) = rw (le-ltb (k + 1) 3 m, le-ltb (i + 1) nv y) (record { order = omega arith; variable = omega arith; gate = omega arith })
next-within nv (Pair i j k) h l = go (le_or_lt 5 (k + 1)) (le_or_lt nv (j + 1)) (le_or_lt nv (i + 1))
  where
    go : (5 ≤ k + 1) ⊎ (k + 1 < 5) → (nv ≤ j + 1) ⊎ (j + 1 < nv) → (nv ≤ i + 1) ⊎ (i + 1 < nv)
        → Within nv (cond (ltb (k + 1) 5) (Pair i j (k + 1)) (cond (ltb (j + 1) nv) (Pair i (j + 1) 0) (cond (ltb (i + 1) nv) (Pair (i + 1) (i + 1) 0) (difference_from nv 0 0))))
    go (inr m) x y = rw (lt-ltb (k + 1) 5 m) (record { order = l.order; variable = l.variable; gate = m })
    go (inl m) (inr x) y = rw (le-ltb (k + 1) 5 m, lt-ltb (j + 1) nv x) (record { order = omega (arith, l.order); variable = x; gate = omega arith })
    go (inl m) (inl x) (inr y) = rw (le-ltb (k + 1) 5 m, le-ltb (j + 1) nv x, lt-ltb (i + 1) nv y) (record { order = omega arith; variable = y; gate = omega arith })
    go (inl m) (inl x) (inl y) = rw (le-ltb (k + 1) 5 m, le-ltb (j + 1) nv x, le-ltb (i + 1) nv y) (difference_within nv 0 0 (omega arith))
next-within nv (Difference i j) h l = difference_within nv i (j + 1) l.left
next-within nv Done h l = tt

-- ---- what a loop over the stock needs
-- the first place is one of the stock's
pub first-stands : (nv : ℕ) → 1 ≤ nv → nv ≤ 6 → Stands nv first_of
first-stands nv h l = record { least = h; most = l; within = omega arith }

-- and so is the next
pub next-stands : (nv : ℕ) (c : Cursor) → Stands nv c → Stands nv (next_of nv c)
next-stands nv c s = record { least = s.least; most = s.most; within = next-within nv c s.least s.within }

-- the formulas from a place on are its own and those from the next place on
pub next-rest : (nv w : ℕ) (c : Cursor) → Stands nv c → is_done c ≡ false → rest_of nv w c ≡ form_of w c ∷ rest_of nv w (next_of nv c)
next-rest nv w c s d = step-rest nv w c s.least s.within d

-- at the end nothing is left
pub done-rest : (nv w : ℕ) (c : Cursor) → is_done c ≡ true → rest_of nv w c ≡ []
unfolding rest_of
done-rest nv w (Constant k) d = absurd (true_not_false (sym d))
done-rest nv w (Variable i k) d = absurd (true_not_false (sym d))
done-rest nv w (Pair i j k) d = absurd (true_not_false (sym d))
done-rest nv w (Difference i j) d = absurd (true_not_false (sym d))
done-rest nv w Done d = refl

-- ---- what the code's tests tell
module _ (nv i j s : ℕ) (e : s ≡ skipped i j) where
  abbrev chosen : Cursor
  chosen = cond (ltb s nv) (Difference i s) (cond (ltb (i + 1) nv) (Difference (i + 1) 0) Done)

  chosen_is : chosen ≡ difference_from nv i j
  unfolding difference_from
  chosen_is = ap (λ (z : ℕ). cond (ltb z nv) (Difference i z) (cond (ltb (i + 1) nv) (Difference (i + 1) 0) Done)) e

  pub difference_here : s < nv → Difference i s ≡ difference_from nv i j
  difference_here h = sym (ap (λ (b : Bool). cond b (Difference i s) (cond (ltb (i + 1) nv) (Difference (i + 1) 0) Done)) (lt-ltb s nv h)) ∙ chosen_is

  pub difference_next : nv ≤ s → i + 1 < nv → Difference (i + 1) 0 ≡ difference_from nv i j
  difference_next h l =
      sym (λ k. cond (le-ltb s nv h k) (Difference i s) (cond (lt-ltb (i + 1) nv l k) (Difference (i + 1) 0) Done)) ∙ chosen_is

  pub difference_none : nv ≤ s → nv ≤ i + 1 → Done ≡ difference_from nv i j
  difference_none h l =
      sym (λ k. cond (le-ltb s nv h k) (Difference i s) (cond (le-ltb (i + 1) nv l k) (Difference (i + 1) 0) Done)) ∙ chosen_is

-- what an arm of a match on the place `at` tells of it
pub next-at : {at c : Cursor} (nv : ℕ) (r : Cursor) → at ≡ c → r ≡ next_of nv c → r ≡ next_of nv at
next-at nv r e h = h ∙ ap (next_of nv) (sym e)

pub within-constant : {at : Cursor} (nv : ℕ) {k : ℕ} → at ≡ Constant k → Within nv at → k < 4
within-constant nv e h = subst (λ (z : Cursor). Within nv z) e h

pub within-variable : {at : Cursor} (nv : ℕ) {i k : ℕ} → at ≡ Variable i k → Within nv at → WithinVariable nv i k
within-variable nv e h = subst (λ (z : Cursor). Within nv z) e h

pub within_pair : {at : Cursor} (nv : ℕ) {i j k : ℕ} → at ≡ Pair i j k → Within nv at → WithinPair nv i j k
within_pair nv e h = subst (λ (z : Cursor). Within nv z) e h

pub within_difference : {at : Cursor} (nv : ℕ) {i j : ℕ} → at ≡ Difference i j → Within nv at → WithinDifference nv i j
within_difference nv e h = subst (λ (z : Cursor). Within nv z) e h
