-- Laws of remainders, and of words of w bits for every w. Assumes nothing.
use Rattle.std.proofs.Common.{◌≡◌, ℕ, zero, ◌+◌, ◌-◌, ◌*◌, ◌/◌, ◌%◌, ◌^◌, ◌<◌, ◌≤◌, min, sym, refl, ap, ◌∙◌, lt_of_le_of_lt, le_of_lt, add_assoc, mod-lt, mod-eq_of_lt, mul_assoc, mul_comm, add-mul, add_comm, mul-le-mul_left, mul-lt-mul_of_pos_right, one-mul, div-add-mod', zero-add, mul-add, sub-add_cancel, mul_left_comm, arith, pow_pos}
use native.Mathlib.Nat.{add_left_comm, mod-add-mod, add-mod_right, mul-add-mod_self_right}
use lib.Pow.{pow-lt, split, mod-mod-pow}
use Rattle.arith.specs.Word.{modulus, not_of, neg_of, sub_of}

-- ---- the modulus of a width
pub width_le : (w : ℕ) → min w 64 ≤ 64
width_le w = omega arith

-- at a width that no call refuses it is 2 ^ w
pub modulus-is : (w : ℕ) → w ≤ 64 → modulus w ≡ 2 ^ w
modulus-is w h = let e : min w 64 ≡ w = omega arith in ap (λ (k : ℕ). 2 ^ k) e

-- a word above the mask is not below 2^w, and any other is
pub mask_lt : (w mask x : ℕ) → w ≤ 64 → mask ≡ modulus w - 1 → mask < x → 2 ^ w ≤ x
mask_lt w mask x h e l = let m = modulus-is w h in let p = pow_pos w in omega arith

pub mask_le : (w mask x : ℕ) → w ≤ 64 → mask ≡ modulus w - 1 → x ≤ mask → x < 2 ^ w
mask_le w mask x h e l = let m = modulus-is w h in let p = pow_pos w in omega arith

-- one, shifted by less than the n bits of its type
pub shl_one : (n : ℕ) {w : ℕ} → w < n → (1 * 2 ^ w) % 2 ^ n ≡ 2 ^ w
shl_one n {w} h = ap (λ (x : ℕ). x % 2 ^ n) (one-mul (2 ^ w)) ∙ mod-eq_of_lt (pow-lt h)

-- ---- remainders
-- a remainder by a larger power of two first changes nothing
pub mod-mod_le : (x : ℕ) {k n : ℕ} → k ≤ n → x % 2 ^ n % 2 ^ k ≡ x % 2 ^ k
mod-mod_le x {k} {n} h = ap (λ (j : ℕ). x % 2 ^ j % 2 ^ k) (sym (sub-add_cancel h)) ∙ mod-mod-pow x (n - k) k

-- what wraps at 64 bits and is then reduced is reduced
pub wrap_reduce : (x w : ℕ) → x % 2 ^ 64 % modulus w ≡ x % modulus w
wrap_reduce x w = mod-mod_le x (width_le w)

-- a factor may be reduced first
pub mod-mul-mod : (a b m : ℕ) → (a % m * b) % m ≡ (a * b) % m
mod-mul-mod a b m =
    sym (mul-add-mod_self_right (a / m * b) m (a % m * b))
    ∙ ap (λ (x : ℕ). x % m) (ring (a / m) (a % m) ∙ ap (λ (x : ℕ). x * b) (div-add-mod' a m))
  where
    ring : (q r : ℕ) → q * b * m + r * b ≡ (q * m + r) * b
    ring q r = simp (mul-add, add-mul, mul_assoc, mul_comm, mul_left_comm, add_assoc, add_comm, add_left_comm) refl

pub mul-mod-mod : (a b m : ℕ) → (a * (b % m)) % m ≡ (a * b) % m
mul-mod-mod a b m = ap (λ (x : ℕ). x % m) (mul_comm a (b % m)) ∙ mod-mul-mod b a m ∙ ap (λ (x : ℕ). x % m) (mul_comm b a)

-- ---- the product of two words by their halves
-- a product of halves fits
pub halves_lt : {x y : ℕ} → x < 2 ^ 32 → y < 2 ^ 32 → x * y < 2 ^ 64
halves_lt {x} {y} hx hy = lt_of_le_of_lt (mul-le-mul_left x (le_of_lt hy)) (mul-lt-mul_of_pos_right hx (pow_pos 32))

-- a product modulo P * P by the digits of its factors to the base P: the product of the upper digits drops out
digits : (P a1 a0 b1 b0 : ℕ) → (((a0 * b1 + a1 * b0) % (P * P) * P) % (P * P) + a0 * b0) % (P * P) ≡ ((a1 * P + a0) * (b1 * P + b0)) % (P * P)
digits P a1 a0 b1 b0 =
    ap (λ (x : ℕ). (x + a0 * b0) % (P * P)) (mod-mul-mod (a0 * b1 + a1 * b0) P (P * P))
    ∙ mod-add-mod ((a0 * b1 + a1 * b0) * P) (P * P) (a0 * b0)
    ∙ sym (mul-add-mod_self_right (a1 * b1) (P * P) ((a0 * b1 + a1 * b0) * P + a0 * b0))
    ∙ ap (λ (x : ℕ). x % (P * P)) ring
  where
    ring : a1 * b1 * (P * P) + ((a0 * b1 + a1 * b0) * P + a0 * b0) ≡ (a1 * P + a0) * (b1 * P + b0)
    ring = simp (mul-add, add-mul, mul_assoc, mul_comm, mul_left_comm, add_assoc, add_comm, add_left_comm) refl

pub halves : (a b : ℕ) → (((a % 2 ^ 32 * (b / 2 ^ 32) + a / 2 ^ 32 * (b % 2 ^ 32)) % 2 ^ 64 * 2 ^ 32) % 2 ^ 64 + a % 2 ^ 32 * (b % 2 ^ 32)) % 2 ^ 64 ≡ (a * b) % 2 ^ 64
halves a b = digits (2 ^ 32) (a / 2 ^ 32) (a % 2 ^ 32) (b / 2 ^ 32) (b % 2 ^ 32) ∙ (λ i. (split a 32 i * split b 32 i) % 2 ^ 64)

-- Not and Neg as differences: from m - 1, and from 0
pub sub-from-most : (m b : ℕ) → zero < m → sub_of m (m - 1) b ≡ not_of m b
sub-from-most m b h =
    let r = mod-lt b h in
    let e : m - 1 + (m - b % m) ≡ m - 1 - b % m + m = omega arith in
    ap (λ (n : ℕ). n % m) e ∙ add-mod_right (m - 1 - b % m) m ∙ mod-eq_of_lt (omega arith)

pub sub-from_zero : (m b : ℕ) → sub_of m 0 b ≡ neg_of m b
sub-from_zero m b = ap (λ (n : ℕ). n % m) (zero-add (m - b % m))
