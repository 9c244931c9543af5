-- Laws of gates, for every width. What a gate gives is used through these, but where it is computed or is Mul's. Assumes nothing.
use mathlib.Core.Path.{◌≡◌, refl, sym, ap, ap₂, ◌∙◌}
use mathlib.Core.Bool.{true}
use Prim.Native.Nat.{ℕ, zero, suc, ◌+◌, ◌-◌, ◌*◌, ◌/◌, ◌%◌, ◌^◌, ◌<◌}
use native.Mathlib.Nat.{add_comm, mul_comm, mod-lt, mod-eq_of_lt, div-add-mod'}
use native.Mathlib.Omega.{arith}
use lib.Arith.{bin_ind}
use lib.Pow.{pow_pos}
use lib.Bits.{bit_and, bit_or, bit_xor, differ, and_comm, or_comm, xor_comm, and_self, or_self, and_lt, or_lt, xor_lt, and_mod, or_mod, xor_mod, xor_step, xor_shr, xor_zero_r}
use Rattle.arith.specs.Cong.{Cong}
use Rattle.arith.specs.Word.{sub_of}
use Rattle.arith.proofs.Congruence.{cong_refl, cong_trans, cong_eq, cong_add, cong_mul, cong_mod, cong_sym, cong_sub, sub-add}
use Rattle.limits.proofs.Refusals.{true_not_false}
use Rattle.row_gates.specs.Gates.{gate_number, gate_at, joined, gate_of, residual_of, invertible}
use Rattle.row_gates.specs.Facts.{bitwise, ReducedBitByBit, ResidualCompletes, ResidualOnly}
use Rattle.row_gates.specs.declared.Gate.{Gate}
use Rattle.row_gates.specs.declared.Gate.TheVariants.{And, Or, Xor, Add, Mul}

-- ---- gates and their numbers
pub number-gate : (g : Gate) → gate_at (gate_number g) ≡ g
number-gate And = refl
number-gate Or = refl
number-gate Xor = refl
number-gate Add = refl
number-gate Mul = refl

-- ---- what a gate gives
-- before it is reduced: every gate commutes
joined_comm : (g : Gate) (a b : ℕ) → joined g a b ≡ joined g b a
joined_comm And a b = and_comm a b
joined_comm Or a b = or_comm a b
joined_comm Xor a b = xor_comm a b
joined_comm Add a b = add_comm a b
joined_comm Mul a b = mul_comm a b

-- words equal modulo 2 ^ w are joined to words equal modulo 2 ^ w
joined_cong : (g : Gate) (w : ℕ) {a a' b b' : ℕ} → Cong (2 ^ w) a a' → Cong (2 ^ w) b b' → Cong (2 ^ w) (joined g a b) (joined g a' b')
joined_cong And w {a} {a'} {b} {b'} p q = record { same = and_mod a b w ∙ ap₂ (λ (x y : ℕ). bit_and x y) p.same q.same ∙ sym (and_mod a' b' w) }
joined_cong Or w {a} {a'} {b} {b'} p q = record { same = or_mod a b w ∙ ap₂ (λ (x y : ℕ). bit_or x y) p.same q.same ∙ sym (or_mod a' b' w) }
joined_cong Xor w {a} {a'} {b} {b'} p q = record { same = xor_mod a b w ∙ ap₂ (λ (x y : ℕ). bit_xor x y) p.same q.same ∙ sym (xor_mod a' b' w) }
joined_cong Add w p q = cong_add p q
joined_cong Mul w p q = cong_mul p q

-- every gate commutes
pub gate_comm : (g : Gate) (w a b : ℕ) → gate_of g w a b ≡ gate_of g w b a
unfolding gate_of
gate_comm g w a b = ap (λ (x : ℕ). x % 2 ^ w) (joined_comm g a b)

-- any two words give one below 2 ^ w
pub gate_lt : (g : Gate) (w a b : ℕ) → gate_of g w a b < 2 ^ w
unfolding gate_of
gate_lt g w a b = mod-lt (joined g a b) (pow_pos w)

-- words equal modulo 2 ^ w give the same word
pub gate_cong : (g : Gate) (w : ℕ) {a a' b b' : ℕ} → Cong (2 ^ w) a a' → Cong (2 ^ w) b b' → gate_of g w a b ≡ gate_of g w a' b'
unfolding gate_of
gate_cong g w p q = (joined_cong g w p q).same

-- so words give what they give reduced
pub gate_raw : (g : Gate) (w a b : ℕ) → gate_of g w a b ≡ gate_of g w (a % 2 ^ w) (b % 2 ^ w)
gate_raw g w a b = gate_cong g w (cong_sym (cong_mod (2 ^ w) a)) (cong_sym (cong_mod (2 ^ w) b))

pub gate_raw_right : (g : Gate) (w a b : ℕ) → gate_of g w a (b % 2 ^ w) ≡ gate_of g w a b
gate_raw_right g w a b = gate_cong g w (cong_refl (2 ^ w) a) (cong_mod (2 ^ w) b)

-- And, Or and Xor of words below 2 ^ w need no reduction
joined_lt : (g : Gate) → bitwise g ≡ true → (w a b : ℕ) → a < 2 ^ w → b < 2 ^ w → joined g a b < 2 ^ w
joined_lt And i w a b ha hb = and_lt w a b ha hb
joined_lt Or i w a b ha hb = or_lt w a b ha hb
joined_lt Xor i w a b ha hb = xor_lt w a b ha hb
joined_lt Add i w a b ha hb = absurd (true_not_false (sym i))
joined_lt Mul i w a b ha hb = absurd (true_not_false (sym i))

pub reduced_bit_by_bit : ReducedBitByBit
unfolding gate_of
reduced_bit_by_bit g i w a b ha hb = mod-eq_of_lt (joined_lt g i w a b ha hb)

-- Xor with a word that is 0 modulo 2 ^ w gives the word reduced
pub xor_nought : (w a z : ℕ) → z % 2 ^ w ≡ 0 → gate_of Xor w a z ≡ a % 2 ^ w
unfolding gate_of
xor_nought w a z e =
    gate_cong Xor w {b = z} {b' = 0} (cong_refl (2 ^ w) a) (record { same = e ∙ sym (mod-eq_of_lt (pow_pos w)) }) ∙ ap (λ (x : ℕ). x % 2 ^ w) (xor_zero_r a)

-- a word with itself, under And and Or, gives the word reduced
pub and_itself : (w a : ℕ) → gate_of And w a a ≡ a % 2 ^ w
unfolding gate_of
and_itself w a = ap (λ (x : ℕ). x % 2 ^ w) (and_self a)

pub or_itself : (w a : ℕ) → gate_of Or w a a ≡ a % 2 ^ w
unfolding gate_of
or_itself w a = ap (λ (x : ℕ). x % 2 ^ w) (or_self a)

-- ---- residuals
-- two digits: what differs from y by where x and y differ is x
digit_cancel : (x y : ℕ) → x < 2 → y < 2 → differ y (bit_xor x y) ≡ x
digit_cancel zero zero h k = refl
digit_cancel zero (suc zero) h k = refl
digit_cancel zero (suc (suc y)) h k = absurd (omega arith)
digit_cancel (suc zero) zero h k = refl
digit_cancel (suc zero) (suc zero) h k = refl
digit_cancel (suc zero) (suc (suc y)) h k = absurd (omega arith)
digit_cancel (suc (suc x)) y h k = absurd (omega arith)

pub xor_cancel : (a t : ℕ) → bit_xor a (bit_xor t a) ≡ t
xor_cancel =
    bin_ind (λ (a : ℕ). (t : ℕ) → bit_xor a (bit_xor t a) ≡ t) (λ t. xor_zero_r t)
    (λ a ih t.
    xor_step a (bit_xor t a)
    ∙ ap₂ (λ (x y : ℕ). bit_xor (a / 2) x * 2 + differ (a % 2) y) (xor_shr t a 1) (xor_mod t a 1)
    ∙ ap₂ (λ (x y : ℕ). x * 2 + y) (ih (t / 2)) (digit_cancel (t % 2) (a % 2) (mod-lt t (pow_pos 1)) (mod-lt a (pow_pos 1)))
    ∙ div-add-mod' t 2)

-- any two words have one below 2 ^ w
pub residual_lt : (g : Gate) (w target a : ℕ) → residual_of g w target a < 2 ^ w
unfolding residual_of
residual_lt And w t a = pow_pos w
residual_lt Or w t a = pow_pos w
residual_lt Xor w t a = mod-lt (bit_xor t a) (pow_pos w)
residual_lt Add w t a = mod-lt (t + (2 ^ w - a % 2 ^ w)) (pow_pos w)
residual_lt Mul w t a = pow_pos w

-- the gate of a and the residual of the target by a is the target, reduced
pub residual_completes : ResidualCompletes
unfolding gate_of residual_of
residual_completes And i w t a = absurd (true_not_false (sym i))
residual_completes Or i w t a = absurd (true_not_false (sym i))
residual_completes Mul i w t a = absurd (true_not_false (sym i))
residual_completes Xor i w t a = (joined_cong Xor w (cong_refl (2 ^ w) a) (cong_mod (2 ^ w) (bit_xor t a))).same ∙ ap (λ (x : ℕ). x % 2 ^ w) (xor_cancel a t)
residual_completes Add i w t a = ap (λ (x : ℕ). x % 2 ^ w) (add_comm a (sub_of (2 ^ w) t a)) ∙ (sub-add (2 ^ w) t a (pow_pos w)).same

-- a word that gives the target with a is the residual, both reduced
pub residual-only : ResidualOnly
unfolding gate_of residual_of
residual-only And i w t a b e = absurd (true_not_false (sym i))
residual-only Or i w t a b e = absurd (true_not_false (sym i))
residual-only Mul i w t a b e = absurd (true_not_false (sym i))
residual-only Xor i w t a b e =
    ap (λ (x : ℕ). x % 2 ^ w) (sym (xor_cancel a b) ∙ xor_comm a (bit_xor b a) ∙ ap (λ (x : ℕ). bit_xor x a) (xor_comm b a))
    ∙ (joined_cong Xor w {a = bit_xor a b} {a' = t} (record { same = e }) (cong_refl (2 ^ w) a)).same
residual-only Add i w t a b e = cong_sub (2 ^ w) t a b (pow_pos w) (cong_trans (cong_eq (2 ^ w) (add_comm b a)) (record { same = e }))

-- words have the residual that they have reduced: it gives the target with a, and is the only word below 2 ^ w that does
residual_raw_if : (g : Gate) → invertible g ≡ true → (w t a : ℕ) → residual_of g w t a ≡ residual_of g w (t % 2 ^ w) (a % 2 ^ w)
residual_raw_if g i w t a =
    sym (mod-eq_of_lt (residual_lt g w t a))
    ∙ residual-only g i w (t % 2 ^ w) (a % 2 ^ w) (residual_of g w t a)
    (gate_cong g w (cong_mod (2 ^ w) a) (cong_refl (2 ^ w) (residual_of g w t a)) ∙ residual_completes g i w t a ∙ sym (cong_mod (2 ^ w) t).same)

pub residual_raw : (g : Gate) (w t a : ℕ) → residual_of g w t a ≡ residual_of g w (t % 2 ^ w) (a % 2 ^ w)
unfolding residual_of
residual_raw And w t a = refl
residual_raw Or w t a = refl
residual_raw Xor w t a = residual_raw_if Xor refl w t a
residual_raw Add w t a = residual_raw_if Add refl w t a
residual_raw Mul w t a = refl
