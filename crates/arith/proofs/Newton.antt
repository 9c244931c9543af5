-- Inverses of odd numbers modulo powers of two: Newton's iteration finds them, and there is one. Assumes nothing.
use Rattle.std.proofs.Common.{◌≡◌, ℕ, zero, suc, ◌+◌, ◌*◌, ◌/◌, ◌%◌, ◌^◌, ◌<◌, ◌≤◌, ◌⊎◌, sym, refl, ap, ◌∙◌, subst, inl, inr, add_assoc, mod-lt, mod-eq_of_lt, mul_assoc, mul_comm, add-mul, add_comm, one-mul, div-add-mod', mul-one, mul-add, mul_left_comm, arith, pow_pos, pow-add}
use native.Mathlib.Nat.{add_left_comm}
use lib.Pow.{pow-lt}
use Rattle.arith.specs.Word.{sub_of}
use Rattle.arith.specs.Cong.{Cong, Inverse}
use Rattle.arith.proofs.Remainders.{mod-mod_le}
use Rattle.arith.proofs.Congruence.{cong_refl, cong_sym, cong_trans, cong_eq, cong_mod, cong_add, cong_mul, cong_multiple, cong_cancel, cong_less, cong_below, sub-add}

-- where q is 1 modulo P and y + q is 2 modulo P * P, q * y is 1 modulo P * P
newton : (P a q y : ℕ) → zero < P * P → q ≡ a * P + 1 → Cong (P * P) (y + q) 2 → Cong (P * P) (q * y) 1
newton P a q y h e p = cong_cancel (a * P) h (cong_trans left (cong_trans times right))
  where
    -- y + aP is 1
    one : Cong (P * P) (y + a * P) 1
    one = cong_cancel 1 h (cong_trans (cong_eq (P * P) (add_assoc y (a * P) 1 ∙ ap (λ (x : ℕ). y + x) (sym e))) p)

    times : Cong (P * P) (q * (y + a * P)) (q * 1)
    times = cong_mul (cong_refl (P * P) q) one

    -- q * aP is aP and a multiple of P * P
    square : (b : ℕ) → (b * P + 1) * (b * P) ≡ b * P + b * b * (P * P)
    square b = simp (mul-add, add-mul, one-mul, mul-one, mul_assoc, mul_comm, mul_left_comm, add_assoc, add_comm, add_left_comm) refl

    shrunk : Cong (P * P) (q * (a * P)) (a * P)
    shrunk = cong_trans (cong_eq (P * P) (ap (λ (x : ℕ). x * (a * P)) e ∙ square a)) (cong_multiple (P * P) (a * P) (a * a))

    left : Cong (P * P) (q * y + a * P) (q * (y + a * P))
    left = cong_trans (cong_add (cong_refl (P * P) (q * y)) (cong_sym shrunk)) (cong_eq (P * P) (sym (mul-add q y (a * P))))

    right : Cong (P * P) (q * 1) (1 + a * P)
    right = cong_eq (P * P) (mul-one q ∙ e ∙ add_comm (a * P) 1)

-- one step, at P = 2 ^ j
pub newton_doubles : (j m x y : ℕ) → 1 ≤ j → Cong (2 ^ j) (m * x) 1 → Cong (2 ^ (j + j)) (y + m * x) 2 → Cong (2 ^ (j + j)) (m * (x * y)) 1
newton_doubles j m x y h p s =
    let one : 1 % 2 ^ j ≡ 1 = mod-eq_of_lt (pow-lt h) in
    let digits : m * x ≡ m * x / 2 ^ j * 2 ^ j + 1 = sym (div-add-mod' (m * x) (2 ^ j)) ∙ ap (λ (r : ℕ). m * x / 2 ^ j * 2 ^ j + r) (p.same ∙ one) in
    cong_trans (cong_eq (2 ^ (j + j)) (sym (mul_assoc m x y)))
    (subst (λ (M : ℕ). Cong M (m * x * y) 1) (sym (pow-add 2 j j))
    (newton (2 ^ j) (m * x / 2 ^ j) (m * x) y (subst (λ (M : ℕ). zero < M) (pow-add 2 j j) (pow_pos (j + j))) digits
    (subst (λ (M : ℕ). Cong M (y + m * x) 2) (pow-add 2 j j) s)))

-- an odd number is its own inverse modulo 8
odd_square : (r : ℕ) → r < 8 → r % 2 ≡ 1 → (r * r) % 8 ≡ 1
odd_square zero h o = absurd (omega arith)
odd_square (suc zero) h o = refl
odd_square (suc (suc zero)) h o = absurd (omega arith)
odd_square (suc (suc (suc zero))) h o = refl
odd_square (suc (suc (suc (suc zero)))) h o = absurd (omega arith)
odd_square (suc (suc (suc (suc (suc zero))))) h o = refl
odd_square (suc (suc (suc (suc (suc (suc zero)))))) h o = absurd (omega arith)
odd_square (suc (suc (suc (suc (suc (suc (suc zero))))))) h o = refl
odd_square (suc (suc (suc (suc (suc (suc (suc (suc r)))))))) h o = absurd (omega arith)

-- so the iteration starts at the number itself, right in three bits
pub odd_start : (m : ℕ) → m % 2 ≡ 1 → Cong (2 ^ 3) (m * m) 1
odd_start m o =
    let r : m % 8 % 2 ≡ 1 = mod-mod_le m {k = 1} {n = 3} (omega arith) ∙ o in
    cong_trans (cong_mul (cong_sym (cong_mod 8 m)) (cong_sym (cong_mod 8 m))) (record { same = odd_square (m % 8) (mod-lt m (pow_pos 3)) r })

-- an inverse solves for a factor
pub times_inverse : {n : ℕ} (m v f t : ℕ) → Cong n (m * v) 1 → Cong n (m * f) t → Cong n f (v * t)
times_inverse {n} m v f t i p =
    cong_trans (cong_sym (cong_trans (cong_mul i (cong_refl n f)) (cong_eq n (one-mul f))))
    (cong_trans (cong_eq n (ap (λ (x : ℕ). x * f) (mul_comm m v) ∙ mul_assoc v m f)) (cong_mul (cong_refl n v) p))

pub of_inverse : {n : ℕ} (m v f t : ℕ) → Cong n (m * v) 1 → Cong n f (v * t) → Cong n (m * f) t
of_inverse {n} m v f t i p =
    cong_trans (cong_mul (cong_refl n m) p)
    (cong_trans (cong_eq n (sym (mul_assoc m v t))) (cong_trans (cong_mul i (cong_refl n t)) (cong_eq n (one-mul t))))

-- an odd number has an inverse modulo every power of two
pub record HasInverse (k m : ℕ) : Type 0 where
  pub v : ℕ
  pub is : Cong (2 ^ k) (m * v) 1

pub odd_has_inverse : (k m : ℕ) → m % 2 ≡ 1 → HasInverse k m
odd_has_inverse zero m o = record { v = 1; is = record { same = omega arith } }
odd_has_inverse (suc zero) m o = record { v = 1; is = record { same = ap (λ (x : ℕ). x % 2) (mul-one m) ∙ o } }
odd_has_inverse (suc (suc k)) m o = doubled (odd_has_inverse (suc k) m o)
  where
    -- one step of Newton's iteration gives enough bits
    doubled : HasInverse (suc k) m → HasInverse (suc (suc k)) m
    doubled h =
        let n = 2 ^ (suc k + suc k) in
        let y = sub_of n 2 (m * h.v) in
        record {
          v = h.v * y;
          is = cong_less (omega arith) (newton_doubles (suc k) m h.v y (omega arith) h.is (sub-add n 2 (m * h.v) (pow_pos (suc k + suc k))));
        }

-- the promise of `mod_inverse_odd` leaves one answer, for every m
pub inverse_unique : (n m r s : ℕ) → Inverse n m r → Inverse n m s → r ≡ s
inverse_unique n m r s p q = go (parity m)
  where
    parity : (k : ℕ) → (k % 2 ≡ 0) ⊎ (k % 2 ≡ 1)
    parity k = go2 (k % 2) refl
      where
        go2 : (d : ℕ) → k % 2 ≡ d → (k % 2 ≡ 0) ⊎ (k % 2 ≡ 1)
        go2 zero e = inl e
        go2 (suc d) e = inr (omega arith)

    go : (m % 2 ≡ 0) ⊎ (m % 2 ≡ 1) → r ≡ s
    go (inl even) = p.even even ∙ sym (q.even even)
    go (inr odd) =
        cong_below p.below q.below
        (cong_trans (times_inverse m s r 1 (q.inverse odd) (p.inverse odd)) (cong_eq n (mul-one s)))
