-- Laws of decimal digits, and of what is written after what. Assumes nothing.
use mathlib.Core.Path.{◌≡◌, refl, sym, ap, ◌∙◌}
use mathlib.Core.Bool.{Bool, true, false}
use mathlib.Core.List.{List, [], ◌∷◌, ◌++◌, append_assoc}
use Prim.Native.Nat.{ℕ, zero, suc, ◌+◌, ◌/◌, ◌%◌, ◌^◌, ◌≤◌, ◌<◌}
use native.Mathlib.Nat.{pow-suc, add-zero, add-suc, suc-add}
use native.Mathlib.Omega.{arith}
use borrow.Author.Tests.{lt-ltb, le-ltb, ltb-true, ltb-false}
use lib.Dec.{ltb}
use lib.ListN.{length, set, length-append}
use lib.Seq.{sets, length-sets}
use Rattle.text_print.specs.Text.{digits_of, decimal}
use Rattle.text_print.specs.Printing.{Wrote, two_of, four_of, eight_of}

-- ---- digits
-- one digit
digits-small : (k n : ℕ) → n < 10 → digits_of (suc k) n ≡ (48 + n) ∷ []
unfolding digits_of
digits-small k n h = simp (lt-ltb n 10 h)

-- the last digit after those of a tenth
digits_more : (k n : ℕ) → 10 ≤ n → digits_of (suc k) n ≡ digits_of k (n / 10) ++ ((48 + n % 10) ∷ [])
unfolding digits_of
digits_more k n h = simp (le-ltb n 10 h)

-- one place more than a number needs changes nothing: by the test of the last digit, from the same of a tenth
same_by : (k n : ℕ) (t : Bool) → ltb n 10 ≡ t → (n / 10 < 10 ^ k → digits_of (suc k) (n / 10) ≡ digits_of k (n / 10)) → n / 10 < 10 ^ k → digits_of (suc (suc k)) n ≡ digits_of (suc k) n
same_by k n true e ih h = digits-small (suc k) n (ltb-true n 10 e) ∙ sym (digits-small k n (ltb-true n 10 e))
same_by k n false e ih h =
    digits_more (suc k) n (ltb-false n 10 e) ∙ ap (λ (l : List ℕ). l ++ ((48 + n % 10) ∷ [])) (ih h) ∙ sym (digits_more k n (ltb-false n 10 e))

-- a tenth has one digit fewer
tenth : (k n : ℕ) → n < 10 ^ suc k → n / 10 < 10 ^ k
tenth k n h = omega (arith, pow-suc 10 k)

same : (k n : ℕ) → n < 10 ^ suc k → digits_of (suc (suc k)) n ≡ digits_of (suc k) n
same zero n h = digits-small 1 n (omega arith) ∙ sym (digits-small 0 n (omega arith))
same (suc k) n h = same_by (suc k) n (ltb n 10) refl (λ below. same k (n / 10) below) (tenth (suc k) n h)

-- at most as many digits as there are places
at_most : (k n : ℕ) (t : Bool) → ltb n 10 ≡ t → length (digits_of k (n / 10)) ≤ k → length (digits_of (suc k) n) ≤ suc k
at_most k n true e h = rw (digits-small k n (ltb-true n 10 e)) (omega arith)
at_most k n false e h = rw (digits_more k n (ltb-false n 10 e)) (simp length-append (omega arith))

digits-length : (k n : ℕ) → length (digits_of k n) ≤ k
unfolding digits_of
digits-length zero n = omega arith
digits-length (suc k) n = at_most k n (ltb n 10) refl (digits-length k (n / 10))

tenth_fits : (n : ℕ) → n < 2 ^ 64 → n / 10 < 10 ^ 19
tenth_fits n h = omega arith

pub decimal-small : (n : ℕ) → n < 10 → decimal n ≡ (48 + n) ∷ []
unfolding decimal
decimal-small n h = digits-small 19 n h

pub decimal-more : (n : ℕ) → 10 ≤ n → n < 2 ^ 64 → decimal n ≡ decimal (n / 10) ++ ((48 + n % 10) ∷ [])
unfolding decimal
decimal-more n h f = digits_more 19 n h ∙ ap (λ (l : List ℕ). l ++ ((48 + n % 10) ∷ [])) (sym (same 18 (n / 10) (tenth_fits n f)))

-- a number takes 20 places at most
pub decimal-length : (n : ℕ) → length (decimal n) ≤ 20
unfolding decimal
decimal-length n = digits-length 20 n

-- ---- digits by pairs
-- two digits more, four and eight
pub decimal-two : (n : ℕ) → 10 ≤ n → n < 100 → decimal n ≡ two_of n
unfolding two_of
decimal-two n h f = rw (decimal-more n h (omega arith), decimal-small (n / 10) (omega arith))

pub decimal_twos : (n : ℕ) → 100 ≤ n → n < 2 ^ 64 → decimal n ≡ decimal (n / 100) ++ two_of (n % 100)
unfolding two_of
decimal_twos n h f =
    let e : n / 10 / 10 ≡ n / 100 = omega arith in
    let tens : n / 10 % 10 ≡ n % 100 / 10 = omega arith in
    let ones : n % 10 ≡ n % 100 % 10 = omega arith in
    decimal-more n (omega arith) f
    ∙ ap (λ (l : List ℕ). l ++ ((48 + n % 10) ∷ [])) (decimal-more (n / 10) (omega arith) (omega arith))
    ∙ append_assoc (decimal (n / 10 / 10)) ((48 + n / 10 % 10) ∷ []) ((48 + n % 10) ∷ [])
    ∙ rw (e, tens, ones)

pub decimal_fours : (n : ℕ) → 10000 ≤ n → n < 2 ^ 64 → decimal n ≡ decimal (n / 10000) ++ four_of (n % 10000)
unfolding four_of
decimal_fours n h f =
    let e : n / 100 / 100 ≡ n / 10000 = omega arith in
    let high : n / 100 % 100 ≡ n % 10000 / 100 = omega arith in
    let low : n % 100 ≡ n % 10000 % 100 = omega arith in
    decimal_twos n (omega arith) f
    ∙ ap (λ (l : List ℕ). l ++ two_of (n % 100)) (decimal_twos (n / 100) (omega arith) (omega arith))
    ∙ append_assoc (decimal (n / 100 / 100)) (two_of (n / 100 % 100)) (two_of (n % 100))
    ∙ rw (e, high, low)

pub decimal_eights : (n : ℕ) → 100000000 ≤ n → n < 2 ^ 64 → decimal n ≡ decimal (n / 100000000) ++ eight_of (n % 100000000)
unfolding eight_of
decimal_eights n h f =
    let e : n / 10000 / 10000 ≡ n / 100000000 = omega arith in
    let high : n / 10000 % 10000 ≡ n % 100000000 / 10000 = omega arith in
    let low : n % 10000 ≡ n % 100000000 % 10000 = omega arith in
    decimal_fours n (omega arith) f
    ∙ ap (λ (l : List ℕ). l ++ four_of (n % 10000)) (decimal_fours (n / 10000) (omega arith) (omega arith))
    ∙ append_assoc (decimal (n / 10000 / 10000)) (four_of (n / 10000 % 10000)) (four_of (n % 10000))
    ∙ rw (e, high, low)

-- ---- what is written
-- two texts one after the other
sets-append : (l : List ℕ) (i : ℕ) (xs ys : List ℕ) → sets l i (xs ++ ys) ≡ sets (sets l i xs) (i + length xs) ys
sets-append l i [] ys = rw add-zero
sets-append l i (x ∷ xs) ys =
    sets-append (set l i x) (suc i) xs ys ∙ ap (λ (k : ℕ). sets (sets (set l i x) (suc i) xs) k ys) (suc-add i (length xs) ∙ sym (add-suc i (length xs)))

-- what is written after what was written
pub then : {l l' l'' xs ys : List ℕ} {i r r' : ℕ} → Wrote l i l' r xs → Wrote l' r l'' r' ys → Wrote l i l'' r' (xs ++ ys)
then {l} {l'} {l''} {xs} {ys} {i} {r} {r'} p q = record {
  next = omega (arith, p.next, q.next, length-append xs ys);
  laid = q.laid
      ∙ ap (λ (k : List ℕ). sets k r ys) p.laid
      ∙ ap (λ (k : ℕ). sets (sets l i xs) k ys) p.next
      ∙ sym (sets-append l i xs ys);
}

-- the same place under another name
pub moved : {l l' xs : List ℕ} {i r r' : ℕ} → r ≡ r' → Wrote l i l' r xs → Wrote l i l' r' xs
moved e p = record { next = sym e ∙ p.next; laid = p.laid }

-- nothing, one byte and two
pub nothing : {l : List ℕ} {i : ℕ} → Wrote l i l i []
nothing {l} {i} = record { next = sym (add-zero i); laid = refl }

pub one : {l : List ℕ} {i : ℕ} (x : ℕ) → Wrote l i (set l i x) (i + 1) (x ∷ [])
one x = record { next = refl; laid = refl }

pub one_more : {l l' xs : List ℕ} {i r : ℕ} (x : ℕ) → Wrote l i l' r xs → Wrote l i (set l' r x) (r + 1) (xs ++ (x ∷ []))
one_more x p = then p (one x)

pub two : {l : List ℕ} {i : ℕ} (x y : ℕ) → Wrote l i (set (set l i x) (i + 1) y) (i + 2) (x ∷ y ∷ [])
two x y = moved (omega arith) (one_more y (one x))

-- the buffer keeps its length
pub wrote-length : {l l' xs : List ℕ} {i r : ℕ} → Wrote l i l' r xs → length l' ≡ length l
wrote-length {l} {l'} {xs} {i} {r} p = ap (λ (z : List ℕ). length z) p.laid ∙ length-sets l i xs

-- the same text under another name
pub reads : {l l' xs ys : List ℕ} {i r : ℕ} → xs ≡ ys → Wrote l i l' r xs → Wrote l i l' r ys
reads {l} {l'} {xs} {ys} {i} {r} e p = record {
  next = p.next ∙ ap (λ (z : List ℕ). i + length z) e;
  laid = p.laid ∙ ap (λ (z : List ℕ). sets l i z) e;
}
