-- Laws of rows: a gate place by place, the test of equality, and 02, 2.3. Assumes nothing.
use mathlib.Core.Path.{◌≡◌, refl, sym, ap, ap₂, ◌∙◌, subst}
use mathlib.Core.Bool.{Bool, true, false, ◌&&◌, cond}
use mathlib.Core.List.{List, [], ◌∷◌, zip_with}
use Prim.Native.Nat.{ℕ, zero, suc, ◌%◌, ◌^◌, ◌<◌}
use native.Mathlib.Decide.{ℕ_discrete}
use native.Mathlib.Nat.{mod-eq_of_lt}
use native.Mathlib.Omega.{arith}
use borrow.Author.Tests.{eq-eqb, ne_eqb}
use lib.Dec.{eqb}
use lib.ListN.{length, get_or}
use lib.Pointwise.{pointwise}
use lib.Pow.{pow_pos}
use Rattle.arrays.proofs.Fill.{length-zip_with, get_or-zip_with}
use Rattle.limits.specs.Refusal.{refuse, outcome}
use Rattle.limits.proofs.Refusals.{true_not_false}
use Rattle.row_gates.specs.Gates.{gate_of, gate_row, residual_of, residual_row, reduced_row, same_row}
use Rattle.row_gates.specs.Facts.{GateReduces, ResidualReduces, RawAsReduced, RawResidualAsReduced, AboveNeverMatches}
use Rattle.row_gates.specs.declared.Gate.{Gate}
use Rattle.row_gates.specs.declared.Gate.TheVariants.{Xor}
use Rattle.row_gates.proofs.GateLaws.{gate_comm, gate_lt, gate_raw, xor_nought, residual_lt, residual_raw}

pub length-gate_row : (g : Gate) (w : ℕ) (a b : List ℕ) → length a ≡ length b → length (gate_row g w a b) ≡ length a
unfolding gate_row
length-gate_row g w a b e = length-zip_with (gate_of g w) a b e

pub get_or-gate_row : (g : Gate) (w : ℕ) (a b : List ℕ) (k : ℕ) → k < length a → k < length b → get_or (gate_row g w a b) k 0 ≡ gate_of g w (get_or a k 0) (get_or b k 0)
unfolding gate_row
get_or-gate_row g w a b k h l = get_or-zip_with (gate_of g w) a b k h l

-- the same of residuals
pub length-residual_row : (g : Gate) (w : ℕ) (t a : List ℕ) → length t ≡ length a → length (residual_row g w t a) ≡ length t
unfolding residual_row
length-residual_row g w t a e = length-zip_with (residual_of g w) t a e

pub get_or-residual_row : (g : Gate) (w : ℕ) (t a : List ℕ) (k : ℕ) → k < length t → k < length a → get_or (residual_row g w t a) k 0 ≡ residual_of g w (get_or t k 0) (get_or a k 0)
unfolding residual_row
get_or-residual_row g w t a k h l = get_or-zip_with (residual_of g w) t a k h l

-- a gate on rows commutes, as it does on words
pub row_comm : (g : Gate) (w : ℕ) (x y : List ℕ) → gate_row g w x y ≡ gate_row g w y x
unfolding gate_row zip_with
row_comm g w [] [] = refl
row_comm g w [] (b ∷ y) = refl
row_comm g w (a ∷ x) [] = refl
row_comm g w (a ∷ x) (b ∷ y) = ap₂ (λ (n : ℕ) (l : List ℕ). n ∷ l) (gate_comm g w a b) (row_comm g w x y)

-- a row with itself, where the gate gives every word reduced
pub row_self : (g : Gate) (w : ℕ) → ((a : ℕ) → gate_of g w a a ≡ a % 2 ^ w) → (x : List ℕ) → gate_row g w x x ≡ reduced_row w x
unfolding gate_row zip_with
row_self g w h [] = refl
row_self g w h (a ∷ x) = ap₂ (λ (n : ℕ) (l : List ℕ). n ∷ l) (h a) (row_self g w h x)

-- and with a row of words that are 0 modulo 2^w, under Xor
pub row_nought : (w : ℕ) (x z : List ℕ) → length x ≡ length z → ((j : ℕ) → j < length z → get_or z j 0 % 2 ^ w ≡ 0) → gate_row Xor w x z ≡ reduced_row w x
unfolding gate_row zip_with
row_nought w [] [] e h = refl
row_nought w [] (b ∷ z) e h = absurd (omega arith)
row_nought w (a ∷ x) [] e h = absurd (omega arith)
row_nought w (a ∷ x) (b ∷ z) e h =
    ap₂ (λ (n : ℕ) (l : List ℕ). n ∷ l) (xor_nought w a b (h 0 (omega arith))) (row_nought w x z (omega arith) (λ j l. h (suc j) (omega arith)))

-- to reduce a row whose words are below 2^w changes nothing
pub reduced-is : (w : ℕ) (row : List ℕ) → ((j : ℕ) → j < length row → get_or row j 0 < 2 ^ w) → reduced_row w row ≡ row
reduced-is w [] h = refl
reduced-is w (a ∷ row) h = ap₂ (λ (n : ℕ) (l : List ℕ). n ∷ l) (mod-eq_of_lt (h 0 (omega arith))) (reduced-is w row (λ j l. h (suc j) (omega arith)))

-- ---- 02, 2.3: results are reduced, and raw words give what their reduced words give
-- what two lists are joined to place by place: a bound that all results and 0 have, and what holds of words holds of rows
zip_lt : (f : ℕ → ℕ → ℕ) (m : ℕ) → 0 < m → ((a b : ℕ) → f a b < m) → (x y : List ℕ) (j : ℕ) → get_or (zip_with f x y) j 0 < m
unfolding zip_with
zip_lt f m z h [] y j = z
zip_lt f m z h (a ∷ x) [] j = z
zip_lt f m z h (a ∷ x) (b ∷ y) zero = h a b
zip_lt f m z h (a ∷ x) (b ∷ y) (suc j) = zip_lt f m z h x y j

zip_raw : (f : ℕ → ℕ → ℕ) (w : ℕ) → ((a b : ℕ) → f a b ≡ f (a % 2 ^ w) (b % 2 ^ w)) → (x y : List ℕ) → zip_with f x y ≡ zip_with f (reduced_row w x) (reduced_row w y)
unfolding zip_with
zip_raw f w h [] y = refl
zip_raw f w h (a ∷ x) [] = refl
zip_raw f w h (a ∷ x) (b ∷ y) = ap₂ (λ (n : ℕ) (l : List ℕ). n ∷ l) (h a b) (zip_raw f w h x y)

pub gate_reduces : GateReduces
unfolding gate_row
gate_reduces g w a b j = zip_lt (gate_of g w) (2 ^ w) (pow_pos w) (gate_lt g w) a b j

pub residual_reduces : ResidualReduces
unfolding residual_row
residual_reduces g w t a j = zip_lt (residual_of g w) (2 ^ w) (pow_pos w) (residual_lt g w) t a j

pub raw_as_reduced : RawAsReduced
unfolding gate_row
raw_as_reduced g w a b = zip_raw (gate_of g w) w (gate_raw g w) a b

pub raw_residual_as_reduced : RawResidualAsReduced
unfolding residual_row
raw_residual_as_reduced g w t a = zip_raw (residual_of g w) w (residual_raw g w) t a

-- ---- the test of equality is exact
pub same-row_refl : (xs : List ℕ) → same_row xs xs ≡ true
unfolding same_row
same-row_refl [] = refl
same-row_refl (x ∷ xs) = ap (λ (b : Bool). cond b (same_row xs xs) false) (eq-eqb x x refl) ∙ same-row_refl xs

pub same-row_eq : (xs ys : List ℕ) → same_row xs ys ≡ true → xs ≡ ys
unfolding same_row
same-row_eq [] [] h = refl
same-row_eq [] (y ∷ ys) h = absurd (true_not_false (sym h))
same-row_eq (x ∷ xs) [] h = absurd (true_not_false (sym h))
same-row_eq (x ∷ xs) (y ∷ ys) h = go (same-row_eq xs ys) (ℕ_discrete x y)
  where
    go : (same_row xs ys ≡ true → xs ≡ ys) → Dec (x ≡ y) → ◌≡◌ {A = List ℕ} (x ∷ xs) (y ∷ ys)
    go rest (yes e) = ap₂ (λ (z : ℕ) (zs : List ℕ). z ∷ zs) e (rest (ap (λ (b : Bool). cond b (same_row xs ys) false) (sym (eq-eqb x y e)) ∙ h))
    go rest (no n) = absurd (true_not_false (sym h ∙ ap (λ (b : Bool). cond b (same_row xs ys) false) (ne_eqb x y n)))

pub same-row_of : {xs ys : List ℕ} → xs ≡ ys → same_row xs ys ≡ true
same-row_of {xs} e = ap (λ (l : List ℕ). same_row xs l) (sym e) ∙ same-row_refl xs

pub same-row-not : (xs ys : List ℕ) → (xs ≡ ys → ⊥) → same_row xs ys ≡ false
same-row-not xs ys n = go (same_row xs ys) refl
  where
    go : (b : Bool) → same_row xs ys ≡ b → same_row xs ys ≡ false
    go true e = absurd (n (same-row_eq xs ys e))
    go false e = e

-- a target that has a word at or above 2^w is no gate's row
pub above-never_matches : AboveNeverMatches
above-never_matches g w a b target j fit h =
    ap₂ (λ (x y : Bool). outcome (refuse x 2 0) y) fit
    (same-row-not (gate_row g w a b) target
    (λ e. let low : get_or target j 0 < 2 ^ w = subst (λ (l : List ℕ). get_or l j 0 < 2 ^ w) e (gate_reduces g w a b j) in omega arith))

-- the library's `==` of two rows
pub pointwise-same : (xs ys : List ℕ) → pointwise eqb xs ys ≡ same_row xs ys
unfolding same_row
pointwise-same [] [] = refl
pointwise-same [] (y ∷ ys) = refl
pointwise-same (x ∷ xs) [] = refl
pointwise-same (x ∷ xs) (y ∷ ys) = by-first (eqb x y) (pointwise-same xs ys)
  where
    by-first : (first : Bool) {b c : Bool} → b ≡ c → (first && b) ≡ cond first c false
    by-first true e = e
    by-first false e = refl
