-- Laws of one trial: two rows fit exactly if each product of their words is the target's word. Assumes nothing.
use mathlib.Core.Path.{◌≡◌, sym, ap, ap₂, ◌∙◌, subst}
use mathlib.Core.Bool.{true, false}
use mathlib.Core.List.{List, [], ◌∷◌, zip_with}
use Prim.Native.Nat.{ℕ, zero, suc, ◌+◌, ◌*◌, ◌%◌, ◌^◌, ◌≤◌, ◌<◌}
use native.Mathlib.Nat.{mul_comm, mod-lt, mod-eq_of_lt}
use native.Mathlib.Omega.{arith}
use borrow.Author.Tests.{eq-eqb}
use lib.ListN.{length, get_or}
use lib.Pow.{pow_pos}
use lib.Seq.{ext_get_or}
use Rattle.arrays.specs.Parts.{part_at}
use Rattle.arith.specs.Word.{modulus}
use Rattle.arrays.proofs.Lists.{is_false}
use Rattle.arrays.proofs.Parts.{length-part, get_d_part}
use Rattle.arith.proofs.Remainders.{modulus-is, mod-mul-mod}
use Rattle.limits.proofs.Refusals.{true_not_false}
use Rattle.row_gates.specs.Gates.{gate_of, gate_row, reduced_row}
use Rattle.row_gates.specs.declared.Gate.TheVariants.{Mul}
use Rattle.row_gates.proofs.Rows.{length-gate_row, get_or-gate_row, reduced-is, same-row_eq, same-row_of}
use Rattle.search_equation.specs.Equation.{solves, solvable}
use Rattle.search_equation.proofs.Solutions.{unsolvable}
use Rattle.search_product_trial.specs.Trying.{fits}
use Rattle.search_product_trial.specs.Steps.{fits_at, Target}

-- where two lists are joined, both have elements
both_long : (f : ℕ → ℕ → ℕ) (xs ys : List ℕ) (k : ℕ) → k < length (zip_with f xs ys) → (k < length xs) × (k < length ys)
unfolding zip_with
both_long f [] ys k h = absurd (omega arith)
both_long f (x ∷ xs) [] k h = absurd (omega arith)
both_long f (x ∷ xs) (y ∷ ys) zero h = (omega arith, omega arith)
both_long f (x ∷ xs) (y ∷ ys) (suc k) h = let p = both_long f xs ys k (omega arith) in (omega (arith, p.0), omega (arith, p.1))

-- word j of the two rows' product
abbrev pub lane : ℕ → List ℕ → ℕ → List ℕ → ℕ → ℕ → ℕ
lane w xs a ys b j = (get_or xs (16 * a + j) 0 * get_or ys (16 * b + j) 0) % 2 ^ w

module _ (w : ℕ) (target xs ys : List ℕ) (a b : ℕ) (ok : Target w target) where
  -- to reduce a target that no refusal turns back changes nothing
  wanted : reduced_row w target ≡ target
  wanted = reduced-is w target (λ j h. ok.reduced j (omega (arith, ok.long)))

  row : List ℕ
  row = gate_row Mul w (part_at 16 xs a) (part_at 16 ys b)

  row_word : (j : ℕ) → j < 16 → j < length (part_at 16 xs a) → j < length (part_at 16 ys b) → get_or row j 0 ≡ lane w xs a ys b j
  unfolding row gate_of
  row_word j h ha hb =
      get_or-gate_row Mul w (part_at 16 xs a) (part_at 16 ys b) j ha hb
      ∙ ap₂ (λ (x y : ℕ). (x * y) % 2 ^ w) (get_d_part 16 xs a j h) (get_d_part 16 ys b j h)

  -- each word of what fits
  pub fits-lane : fits_at w target xs a ys b ≡ true → (j : ℕ) → j < 16 → lane w xs a ys b j ≡ get_or target j 0
  unfolding fits row gate_row
  fits-lane e j h =
      let same : row ≡ target = same-row_eq row (reduced_row w target) e ∙ wanted in
      let long : length row ≡ 16 = ap length same ∙ ok.long in
      let both = both_long (gate_of Mul w) (part_at 16 xs a) (part_at 16 ys b) j (omega (arith, long)) in
      sym (row_word j h both.0 both.1) ∙ ap (λ (l : List ℕ). get_or l j 0) same

  -- one word that differs
  pub fits_not : (j p : ℕ) → j < 16 → p ≡ (get_or xs (16 * a + j) 0 * get_or ys (16 * b + j) 0) % modulus w → (p ≡ get_or target j 0 → ⊥) → fits_at w target xs a ys b ≡ false
  fits_not j p h e n =
      is_false (fits_at w target xs a ys b)
      (λ f. n (e ∙ ap (λ (m : ℕ). (get_or xs (16 * a + j) 0 * get_or ys (16 * b + j) 0) % m) (modulus-is w ok.width) ∙ fits-lane f j h))

  -- what fits solves each word's equation
  pub fits-solves : fits_at w target xs a ys b ≡ true → (j p : ℕ) → j < 16 → p ≡ get_or xs (16 * a + j) 0 % modulus w → solves w p (get_or target j 0) (get_or ys (16 * b + j) 0) ≡ true
  unfolding solves
  fits-solves e j p h is =
      let x = get_or xs (16 * a + j) 0 in
      let y = get_or ys (16 * b + j) 0 in
      eq-eqb ((p * y) % 2 ^ w) (get_or target j 0 % 2 ^ w)
      (ap (λ (q : ℕ). (q * y) % 2 ^ w) (is ∙ ap (λ (m : ℕ). x % m) (modulus-is w ok.width))
      ∙ mod-mul-mod x y (2 ^ w)
      ∙ fits-lane e j h
      ∙ sym (mod-eq_of_lt (ok.reduced j h)))

  -- one word whose equation has no solution
  pub fits-never : (j p : ℕ) → j < 16 → p ≡ get_or xs (16 * a + j) 0 % modulus w → solvable p (get_or target j 0) ≡ false → fits_at w target xs a ys b ≡ false
  fits-never j p h is e =
      let below : p < 2 ^ w = subst (λ (q : ℕ). q < 2 ^ w) (sym (is ∙ ap (λ (m : ℕ). get_or xs (16 * a + j) 0 % m) (modulus-is w ok.width))) (mod-lt (get_or xs (16 * a + j) 0) (pow_pos w)) in
      is_false (fits_at w target xs a ys b)
      (λ f. true_not_false (sym (fits-solves f j p h is) ∙ unsolvable w p (get_or target j 0) ok.width below (ok.reduced j h) e (get_or ys (16 * b + j) 0)))

  -- rows that fit in each word
  pub fits_all : 16 * a + 16 ≤ length xs → 16 * b + 16 ≤ length ys → ((j : ℕ) → j < 16 → lane w xs a ys b j ≡ get_or target j 0) → fits_at w target xs a ys b ≡ true
  unfolding fits row
  fits_all ha hb each =
      let la = length-part 16 xs a ha in
      let lb = length-part 16 ys b hb in
      let long = length-gate_row Mul w (part_at 16 xs a) (part_at 16 ys b) (la ∙ sym lb) in
      let same : row ≡ target =
      ext_get_or 0 row target (long ∙ la ∙ sym ok.long) (λ k h.
      let small : k < 16 = omega (arith, long, la) in
      row_word k small (omega (arith, la)) (omega (arith, lb)) ∙ each k small) in
      same-row_of (same ∙ sym wanted)

-- rows that fit do so the other way round
pub fits_swap : (w : ℕ) (target xs ys : List ℕ) (a b : ℕ) → Target w target → 16 * a + 16 ≤ length xs → 16 * b + 16 ≤ length ys → fits_at w target xs a ys b ≡ true → fits_at w target ys b xs a ≡ true
fits_swap w target xs ys a b ok ha hb e =
    fits_all w target ys xs b a ok hb ha (λ j h.
    ap (λ (x : ℕ). x % 2 ^ w) (mul_comm (get_or ys (16 * b + j) 0) (get_or xs (16 * a + j) 0)) ∙ fits-lane w target xs ys a b ok e j h)
