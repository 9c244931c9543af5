-- The loop of `is_order`: what the entries passed have shown, and why an entry that fails ends it. Assumes nothing.
use Rattle.std.proofs.Common.{◌≡◌, ℕ, zero, suc, ◌+◌, ◌<◌, ◌≤◌, Bool, true, false, List, length, get_or, take, sym, refl, inl, inr, eq-or-lt_of_le, add-one, arith, length-take-le, get_or-take}
use native.Mathlib.Decide.{dec_lt}
use Rattle.index_order.specs.Order.{first_word, is_order}
use Rattle.index_order.proofs.Sorted.{Before, all_of, sorted_of}
use Rattle.index_order.proofs.OrderLaws.{true_test, order_below, order-ascends}

-- the first i entries of l are below n and ascend; the last of them has the first word `word`, and is one less than `least`
pub record Passed (rows l : List ℕ) (n word least i : ℕ) : Type 0 where
  pub low : (k : ℕ) → k < i → get_or l k 0 < n
  pub ascends : (k : ℕ) → k + 1 < i → Before rows (get_or l k 0) (get_or l (k + 1) 0)
  pub last : (k : ℕ) → k + 1 ≡ i → word ≡ first_word rows (get_or l k 0)
  pub past : (k : ℕ) → k + 1 ≡ i → least ≡ get_or l k 0 + 1
  pub start : i ≡ 0 → (word ≡ 0) × (least ≡ 0)

module _ (rows l : List ℕ) (n : ℕ) where
  pub passed_none : Passed rows l n 0 0 0
  passed_none = record {
    low = λ k h. absurd (omega arith);
    ascends = λ k h. absurd (omega arith);
    last = λ k e. absurd (omega arith);
    past = λ k e. absurd (omega arith);
    start = λ _. (refl, refl);
  }

  module _ (word least i : ℕ) (p : Passed rows l n word least i) where
    pub passed_more : get_or l i 0 < n → word ≤ first_word rows (get_or l i 0)
        → (first_word rows (get_or l i 0) ≡ word → least ≤ get_or l i 0)
        → Passed rows l n (first_word rows (get_or l i 0)) (get_or l i 0 + 1) (i + 1)
    passed_more below up tie = record {
      low = λ k h. elim (eq-or-lt_of_le {n = k} {m = i} (omega arith)) [ inl e ↦ rw e below | inr lt ↦ p.low k lt ];
      ascends = λ k h. elim (eq-or-lt_of_le {n = k + 1} {m = i} (omega arith)) [
        | inl e ↦ rw e (next k e)
        | inr lt ↦ p.ascends k lt
      ];
      last = λ k e. let h : k ≡ i = omega arith in rw h;
      past = λ k e. let h : k ≡ i = omega arith in rw h;
      start = λ e. absurd (omega arith);
    }
      where
        next : (k : ℕ) → k + 1 ≡ i → Before rows (get_or l k 0) (get_or l i 0)
        next k e =
            let w = p.last k e in
            let m = p.past k e in
            record { word = omega arith; slot = λ q. let t = tie (omega arith) in omega arith }

    module _ (long : n ≤ length l) (within : i < n) where
      size : length (take n l) ≡ n
      size = length-take-le n l long

      -- an entry that is not below n
      pub fails_low : n ≤ get_or l i 0 → is_order n rows (take n l) ≡ true → ⊥
      fails_low high e =
          let q = order_below n rows (take n l) e i within in
          let g = get_or-take n l i 0 within in
          omega arith

      ordered : is_order n rows (take n l) ≡ true → (k : ℕ) → k + 1 ≡ i → Before rows (get_or l k 0) (get_or l i 0)
      ordered e k h =
          let b = order-ascends n rows (take n l) e k i (omega arith) within in
          rw (get_or-take n l k 0 (omega arith), get_or-take n l i 0 within) at b

      -- one that is not above the last
      pub fails_word : first_word rows (get_or l i 0) < word → is_order n rows (take n l) ≡ true → ⊥
      fails_word down e = go i refl
        where
          go : (j : ℕ) → j ≡ i → ⊥
          go zero h = let s = p.start (sym h) in omega arith
          go (suc k) h =
              let b = (ordered e k (omega arith)).word in
              let w = p.last k (omega arith) in
              omega arith

      pub fails_slot : first_word rows (get_or l i 0) ≡ word → get_or l i 0 < least → is_order n rows (take n l) ≡ true → ⊥
      fails_slot same down e = go i refl
        where
          go : (j : ℕ) → j ≡ i → ⊥
          go zero h = let s = p.start (sym h) in omega arith
          go (suc k) h =
              let w = p.last k (omega arith) in
              let m = p.past k (omega arith) in
              let b = (ordered e k (omega arith)).slot (omega arith) in
              omega arith

      pub fails_after : first_word rows (get_or l i 0) ≤ word → get_or l i 0 < least → is_order n rows (take n l) ≡ true → ⊥
      fails_after up down e = elim (dec_lt (first_word rows (get_or l i 0)) word) [
        | yes h ↦ fails_word h e
        | no h ↦ fails_slot (omega (arith, up, h)) down e
      ]

  pub passed_all : (word least i : ℕ) → n ≤ length l → i ≡ n → Passed rows l n word least i → is_order n rows (take n l) ≡ true
  passed_all word least i long e p =
      let size = length-take-le n l long in
      true_test n rows (take n l) record {
        size = size;
        low = all_of (λ s. s < n) (take n l) λ k h. let b : k < n = omega arith in rw (get_or-take n l k 0 b) (p.low k (omega arith));
        sorted = sorted_of rows (take n l) λ k h.
            let b : suc k < n = omega arith in
            let a : k < n = omega arith in
            rw (get_or-take n l k 0 a, get_or-take n l (suc k) 0 b, ← (add-one k)) (p.ascends k (omega arith));
      }

-- a flag that cannot be true
pub is_false : (b : Bool) → (b ≡ true → ⊥) → false ≡ b
is_false true f = absurd (f refl)
is_false false f = refl
