-- Laws of refusals. Assumes nothing.
use mathlib.Core.Path.{◌≡◌, refl, sym, ap, ◌∙◌}
use mathlib.Core.Logic.{◌⊎◌, inl, inr}
use mathlib.Core.Bool.{Bool, true, false, ◌&&◌, ◌||◌, cond}
use Prim.Native.Nat.{ℕ, suc, ◌*◌, ◌/◌, ◌≤◌, ◌<◌}
use native.Mathlib.Decide.{dec_lt, dec_le}
use native.Mathlib.Nat.{div-lt_iff_lt-mul, lt_of_not-le, mul_comm}
use native.Mathlib.Omega.{arith}
use borrow.Author.Tests.{lt-ltb, le-ltb, ltb-false}
use lib.Dec.{ltb}
use Rattle.limits.specs.Refusal.{refuse, unless_refused, Outcome, refused, answer, outcome, outside_of}

pub true_not_false : true ≡ false → ⊥
true_not_false e = let z : ◌≡◌ {A = ℕ} 0 1 = cc in omega arith

-- a chain of refusals: the first that applies is the call's
pub refused_here : {b : Bool} (n rest : ℕ) → b ≡ true → refuse b n rest ≡ n
refused_here n rest e = ap (λ (x : Bool). refuse x n rest) e

pub refused-later : {b : Bool} (n : ℕ) {rest m : ℕ} → b ≡ false → rest ≡ m → refuse b n rest ≡ m
refused-later n {rest} e f = ap (λ (x : Bool). refuse x n rest) e ∙ f

-- conditions under one number: one of them, or those after it
pub or_here : {a : Bool} (b : Bool) → a ≡ true → (a || b) ≡ true
or_here b e = ap (λ (x : Bool). x || b) e

pub or_later : {a : Bool} {b c : Bool} → a ≡ false → b ≡ c → (a || b) ≡ c
or_later {a} {b} e f = ap (λ (x : Bool). x || b) e ∙ f

pub or_right : (a : Bool) {b : Bool} → b ≡ true → (a || b) ≡ true
or_right true e = refl
or_right false e = e

-- what a range test that passed tells
pub le_or_lt : (a b : ℕ) → (a ≤ b) ⊎ (b < a)
le_or_lt a b = elim (dec_le a b) [ yes h ↦ inl h | no h ↦ inr (lt_of_not-le h) ]

pub record Within (low high n : ℕ) : Type 0 where
  pub least : low ≤ n
  pub most : n ≤ high

pub within : (low high n : ℕ) → outside_of low high n ≡ false → Within low high n
within low high n h = go (le_or_lt low n) (le_or_lt n high)
  where
    go : (low ≤ n) ⊎ (n < low) → (n ≤ high) ⊎ (high < n) → Within low high n
    go (inl a) (inl b) = record { least = a; most = b }
    go (inl a) (inr b) = absurd (true_not_false (simp (le-ltb n low a, lt-ltb high n b) at h))
    go (inr a) b = absurd (true_not_false (simp (lt-ltb n low a) at h))

-- and the other way
pub inside : (low high n : ℕ) → low ≤ n → n ≤ high → outside_of low high n ≡ false
inside low high n h l = or_later (le-ltb n low h) (le-ltb high n l)

-- ---- what is known where nothing is refused
-- a test that did not refuse, and the rest of the chain
pub passed : (b : Bool) (number rest : ℕ) → 0 < number → refuse b number rest ≡ 0 → (b ≡ false) × (rest ≡ 0)
passed true number rest h e = absurd (omega arith)
passed false number rest h e = (refl, e)

-- tests joined by `and` that pass
pub and_both : {a b : Bool} → a ≡ true → b ≡ true → (a && b) ≡ true
and_both {a} {b} h k = ap (λ (x : Bool). x && b) h ∙ k

pub and_left : (a b : Bool) → (a && b) ≡ true → a ≡ true
and_left true b h = refl
and_left false b h = h

pub and_right : (a b : Bool) → (a && b) ≡ true → b ≡ true
and_right true b h = h
and_right false b h = absurd (true_not_false (sym h))

-- and tests joined by `or` that did not
pub neither : (a b : Bool) → (a || b) ≡ false → (a ≡ false) × (b ≡ false)
neither true b e = absurd (true_not_false e)
neither false b e = (refl, e)

-- an array of n elements that is not too short for k parts of s
pub enough : (s n k : ℕ) → 0 < s → ltb (n / s) k ≡ false → s * k ≤ n
enough s n k h e = elim (dec_lt n (k * s)) [
  | yes l ↦ absurd (omega (arith, ltb-false (n / s) k e, (div-lt_iff_lt-mul {k = s} {x = n} {y = k} h).1 l))
  | no m ↦ omega (arith, mul_comm k s)
]

-- too short, by parts or by elements
pub parts_few : (n s k : ℕ) → 0 < s → ltb (n / s) k ≡ ltb n (s * k)
parts_few n s k h = elim (dec_lt (n / s) k) [
  | yes l ↦ lt-ltb (n / s) k l ∙ sym (lt-ltb n (s * k) (omega (arith, (div-lt_iff_lt-mul {k = s} {x = n} {y = k} h).0 l, mul_comm k s)))
  | no l ↦ le-ltb (n / s) k (omega arith) ∙ sym (le-ltb n (s * k) (enough s n k h (le-ltb (n / s) k (omega arith))))
]

-- ---- the answer
pub unless_refused_lem : {A : Type 0} (n : ℕ) (a b : A) → 0 < n → unless_refused n a b ≡ b
unless_refused_lem n a b h = ap (λ (t : Bool). cond t b a) (lt-ltb 0 n h)

pub unless_not : {A : Type 0} (n : ℕ) (a b : A) → n ≡ 0 → unless_refused n a b ≡ a
unless_not n a b h = ap (λ (t : Bool). cond t b a) (le-ltb 0 n (omega arith))

-- an outcome that is a value: nothing is refused; one that is a number: it is refused by it
abbrev told : Outcome ℕ → ℕ
told (refused n) = suc n
told (answer v) = 0

abbrev word : Outcome ℕ → ℕ
word (refused n) = 0
word (answer v) = v

pub outcome-word : (v n a : ℕ) → answer v ≡ outcome n a → (n ≡ 0) × (v ≡ a)
outcome-word v n a e = elim (dec_lt 0 n) [
  | yes h ↦ absurd (let f = ap told (e ∙ unless_refused_lem n (answer a) (refused n) h) in omega arith)
  | no h ↦ let z : n ≡ 0 = omega arith in (z, ap word (e ∙ unless_not n (answer a) (refused n) z))
]

pub outcome-refused : (k n a : ℕ) → refused k ≡ outcome n a → (0 < n) × (k ≡ n)
outcome-refused k n a e = elim (dec_lt 0 n) [
  | yes h ↦ (h, (let f = ap told (e ∙ unless_refused_lem n (answer a) (refused n) h) in omega arith))
  | no h ↦ absurd (let z : n ≡ 0 = omega arith in let f = ap told (e ∙ unless_not n (answer a) (refused n) z) in omega arith)
]
