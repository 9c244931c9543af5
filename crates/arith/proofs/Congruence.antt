-- Laws of congruence modulo m. Assumes nothing.
use Rattle.std.proofs.Common.{◌≡◌, ℕ, zero, ◌+◌, ◌-◌, ◌*◌, ◌/◌, ◌%◌, ◌^◌, ◌<◌, ◌≤◌, sym, refl, ap, ◌∙◌, ap₂, add-zero, add_assoc, mod-lt, mod-eq_of_lt, mul_comm, add-mul, add_comm, one-mul, div-add-mod', mul-one, mul-add, arith}
use native.Mathlib.Nat.{add-mod, mod-mod, add-mul-mod_self_right, mul-div_left, mul-mod_left, eq_of_mul-eq-mul_left}
use lib.Arith.{mod-mul}
use Rattle.arith.specs.Word.{sub_of}
use Rattle.arith.specs.Cong.{Cong}
use Rattle.arith.proofs.Remainders.{mod-mul-mod, mul-mod-mod, mod-mod_le}

pub cong_refl : (m a : ℕ) → Cong m a a
cong_refl m a = record { same = refl }

pub cong_sym : {m a b : ℕ} → Cong m a b → Cong m b a
cong_sym p = record { same = sym p.same }

pub cong_trans : {m a b c : ℕ} → Cong m a b → Cong m b c → Cong m a c
cong_trans p q = record { same = p.same ∙ q.same }

pub cong_eq : (m : ℕ) {a b : ℕ} → a ≡ b → Cong m a b
cong_eq m e = record { same = ap (λ (x : ℕ). x % m) e }

-- a remainder is congruent to what it is taken of
pub cong_mod : (m a : ℕ) → Cong m (a % m) a
cong_mod m a = record { same = mod-mod a m }

pub cong_add : {m a b c d : ℕ} → Cong m a b → Cong m c d → Cong m (a + c) (b + d)
cong_add {m} {a} {b} {c} {d} p q =
    record { same = add-mod a c m ∙ ap₂ (λ (x y : ℕ). (x + y) % m) p.same q.same ∙ sym (add-mod b d m) }

pub cong_mul : {m a b c d : ℕ} → Cong m a b → Cong m c d → Cong m (a * c) (b * d)
cong_mul {m} {a} {b} {c} {d} p q =
    record {
      same =
          sym (mod-mul-mod a c m) ∙ ap (λ (x : ℕ). (x * c) % m) p.same ∙ mod-mul-mod b c m
          ∙ sym (mul-mod-mod b c m) ∙ ap (λ (x : ℕ). (b * x) % m) q.same ∙ mul-mod-mod b d m;
    }

-- a multiple of m drops out
pub cong_multiple : (m a k : ℕ) → Cong m (a + k * m) a
cong_multiple m a k = record { same = add-mul-mod_self_right a k m }

-- a summand cancels
pub cong_cancel : {m a b : ℕ} (c : ℕ) → zero < m → Cong m (a + c) (b + c) → Cong m a b
cong_cancel {m} {a} {b} c h p =
    cong_trans (cong_sym (back a)) (cong_trans (cong_add p (cong_refl m (c * (m - 1)))) (back b))
  where
    whole : c + c * (m - 1) ≡ c * m
    whole =
        let e : 1 + (m - 1) ≡ m = omega arith in
        ap (λ (x : ℕ). x + c * (m - 1)) (sym (mul-one c)) ∙ sym (mul-add c 1 (m - 1)) ∙ ap (λ (x : ℕ). c * x) e

    back : (x : ℕ) → Cong m (x + c + c * (m - 1)) x
    back x = cong_trans (cong_eq m (add_assoc x c (c * (m - 1)) ∙ ap (λ (y : ℕ). x + y) whole)) (cong_multiple m x c)

-- congruent modulo a power of two: also modulo a smaller one
pub cong_less : {a b : ℕ} {k n : ℕ} → k ≤ n → Cong (2 ^ n) a b → Cong (2 ^ k) a b
cong_less {a} {b} {k} {n} h p = record { same = sym (mod-mod_le a h) ∙ ap (λ (x : ℕ). x % 2 ^ k) p.same ∙ mod-mod_le b h }

-- a factor of both sides and of the modulus
mul-mod-mul : (c a m : ℕ) → zero < c → zero < m → (c * a) % (c * m) ≡ c * (a % m)
mul-mod-mul c a m hc hm =
    ap₂ (λ (x y : ℕ). x % y) (mul_comm c a) (mul_comm c m)
    ∙ mod-mul (a * c) hm hc
    ∙ ap₂ (λ (x y : ℕ). (x % m) * c + y) (mul-div_left a hc) (mul-mod_left a c)
    ∙ add-zero (a % m * c) ∙ mul_comm (a % m) c

pub cong_scale : {m a b : ℕ} (c : ℕ) → zero < c → zero < m → Cong m a b → Cong (c * m) (c * a) (c * b)
cong_scale {m} {a} {b} c hc hm p =
    record { same = mul-mod-mul c a m hc hm ∙ ap (λ (x : ℕ). c * x) p.same ∙ sym (mul-mod-mul c b m hc hm) }

pub cong_unscale : {m a b : ℕ} (c : ℕ) → zero < c → zero < m → Cong (c * m) (c * a) (c * b) → Cong m a b
cong_unscale {m} {a} {b} c hc hm p =
    record { same = eq_of_mul-eq-mul_left c hc (a % m) (b % m) (sym (mul-mod-mul c a m hc hm) ∙ p.same ∙ mul-mod-mul c b m hc hm) }

-- congruent and both below m: equal
pub cong_below : {m a b : ℕ} → a < m → b < m → Cong m a b → a ≡ b
cong_below ha hb p = sym (mod-eq_of_lt ha) ∙ p.same ∙ mod-eq_of_lt hb

-- b and what `sub_of` adds in its place are a multiple of m
pub complement : (m b : ℕ) → zero < m → Cong m (b + (m - b % m)) 0
complement m b h =
    let below : b % m < m = mod-lt b h in
    let q : b / m * m + b % m ≡ b = div-add-mod' b m in
    let e : b + (m - b % m) ≡ 0 + (b / m + 1) * m = simp (add-mul, one-mul) (omega arith) in
    cong_trans (cong_eq m e) (cong_multiple m 0 (b / m + 1))

-- `sub_of m a b` is the one answer: b added to it gives a
pub cong_sub : (m a b r : ℕ) → zero < m → Cong m (r + b) a → r % m ≡ sub_of m a b
cong_sub m a b r h p =
    (cong_trans (cong_sym (cong_trans (cong_eq m (add_assoc r b (m - b % m))) (zeroed r)))
    (cong_add p (cong_refl m (m - b % m)))).same
  where
    zeroed : (x : ℕ) → Cong m (x + (b + (m - b % m))) x
    zeroed x = cong_trans (cong_add (cong_refl m x) (complement m b h)) (cong_eq m (omega arith))

pub sub-add : (m a b : ℕ) → zero < m → Cong m (sub_of m a b + b) a
sub-add m a b h =
    cong_trans (cong_add (cong_mod m (a + (m - b % m))) (cong_refl m b))
    (cong_trans (cong_eq m (add_assoc a (m - b % m) b ∙ ap (λ (x : ℕ). a + x) (add_comm (m - b % m) b)))
    (cong_trans (cong_add (cong_refl m a) (complement m b h)) (cong_eq m (omega arith))))
