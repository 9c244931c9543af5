-- Laws of costs: `is_better` is a strict order, and the cost of a gate. Assumes nothing.
use mathlib.Core.Path.{◌≡◌, refl, sym, ap, ◌∙◌}
use mathlib.Core.Logic.{◌⊎◌, inl, inr}
use mathlib.Core.Bool.{Bool, true, false, cond}
use Prim.Native.Nat.{ℕ, ◌+◌, ◌<◌}
use native.Mathlib.Nat.{add_comm, max_comm}
use native.Mathlib.Decide.{ℕ_discrete}
use native.Mathlib.Omega.{arith}
use lib.Dec.{ltb, eqb}
use borrow.Author.Tests.{eq-eqb, ne_eqb, lt-ltb, le-ltb, ltb-true}
use Rattle.std.specs.Prelude.{Option, Some}
use Rattle.std.proofs.Common.{Ordering}
use Rattle.std.specs.Ordering.{nat_cmp, is_lt, is_some_and, partial_ordering_then}
use Rattle.arrays.proofs.Lists.{bool_cases}
use Rattle.limits.proofs.Refusals.{le_or_lt, true_not_false}
use Rattle.expr_cost.specs.declared.Cost.{Cost}
use Rattle.expr_cost.specs.Cost.{under_gate, is_better}

pub by_size : (c d : Cost) → (c.size ≡ d.size → ⊥) → ltb c.size d.size ≡ is_better c d
unfolding is_better
by_size c d h = simp (ne_eqb _ _ h)

pub by_products : (c d : Cost) → c.size ≡ d.size → (c.products ≡ d.products → ⊥) → ltb c.products d.products ≡ is_better c d
unfolding is_better
by_products c d e h = simp (eq-eqb _ _ e, ne_eqb _ _ h)

pub by_depth : (c d : Cost) → c.size ≡ d.size → c.products ≡ d.products → ltb c.depth d.depth ≡ is_better c d
unfolding is_better
by_depth c d e h = simp (eq-eqb _ _ e, eq-eqb _ _ h)

-- a derived order: a number decides, or the rest does where the two are equal
by_first : (a b : ℕ) (o : Option Ordering) → is_some_and is_lt (partial_ordering_then (Some (nat_cmp a b)) o) ≡ cond (eqb a b) (is_some_and is_lt o) (ltb a b)
by_first a b o = elim (ℕ_discrete a b) [
  | yes e ↦ simp (eq-eqb a b e, le-ltb a b (omega arith))
  | no n ↦ elim (le_or_lt b a) [
    | inl l ↦ simp (ne_eqb a b n, le-ltb a b l)
    | inr l ↦ simp (ne_eqb a b n, lt-ltb a b l)
  ]
]

by_last : (a b : ℕ) → is_some_and is_lt (Some (nat_cmp a b)) ≡ ltb a b
by_last a b = elim (le_or_lt b a) [ inl l ↦ elim (ℕ_discrete a b) [ yes e ↦ simp (eq-eqb a b e, le-ltb a b l) | no n ↦ simp (ne_eqb a b n, le-ltb a b l) ] | inr l ↦ simp (lt-ltb a b l) ]

-- the derived order of costs is by the first number that differs
pub derived_order : (a b : Cost) → is_some_and is_lt (partial_ordering_then (Some (nat_cmp a.size b.size)) (partial_ordering_then (Some (nat_cmp a.products b.products)) (Some (nat_cmp a.depth b.depth)))) ≡ is_better a b
unfolding is_better
derived_order a b =
    by_first a.size b.size _
    ∙ ap (λ (x : Bool). cond (eqb a.size b.size) x (ltb a.size b.size)) (by_first a.products b.products _ ∙ ap (λ (x : Bool). cond (eqb a.products b.products) x (ltb a.products b.products)) (by_last a.depth b.depth))

-- by which number c is better than d
pub data Better (c d : Cost) : Type 0 where
  size : c.size < d.size → Better c d
  products : c.size ≡ d.size → c.products < d.products → Better c d
  depth : c.size ≡ d.size → c.products ≡ d.products → c.depth < d.depth → Better c d

pub better_by : (c d : Cost) → is_better c d ≡ true → Better c d
better_by c d h = go (ℕ_discrete c.size d.size) (ℕ_discrete c.products d.products)
  where
    go : Dec (c.size ≡ d.size) → Dec (c.products ≡ d.products) → Better c d
    go (no n) q = size (ltb-true _ _ (by_size c d n ∙ h))
    go (yes e) (no n) = products e (ltb-true _ _ (by_products c d e n ∙ h))
    go (yes e) (yes f) = depth e f (ltb-true _ _ (by_depth c d e f ∙ h))

pub by_better : (c d : Cost) → Better c d → is_better c d ≡ true
by_better c d (size l) = sym (by_size c d (λ e. omega arith)) ∙ lt-ltb _ _ l
by_better c d (products e l) = sym (by_products c d e (λ f. omega arith)) ∙ lt-ltb _ _ l
by_better c d (depth e f l) = sym (by_depth c d e f) ∙ lt-ltb _ _ l

-- no cost is better than itself
pub better_irrefl : (c : Cost) → is_better c c ≡ false
better_irrefl c = sym (by_depth c c refl refl) ∙ le-ltb c.depth c.depth (omega arith)

better_chain : (c d e : Cost) → Better c d → Better d e → Better c e
better_chain c d e (size l) (size m) = size (omega arith)
better_chain c d e (size l) (products p m) = size (omega arith)
better_chain c d e (size l) (depth p q m) = size (omega arith)
better_chain c d e (products p l) (size m) = size (omega arith)
better_chain c d e (products p l) (products q m) = products (p ∙ q) (omega arith)
better_chain c d e (products p l) (depth q r m) = products (p ∙ q) (omega arith)
better_chain c d e (depth p q l) (size m) = size (omega arith)
better_chain c d e (depth p q l) (products r m) = products (p ∙ r) (omega arith)
better_chain c d e (depth p q l) (depth r s m) = depth (p ∙ r) (q ∙ s) (omega arith)

-- what is better than something better is better
pub better_trans : (c d e : Cost) → is_better c d ≡ true → is_better d e ≡ true → is_better c e ≡ true
better_trans c d e h k = by_better c e (better_chain c d e (better_by c d h) (better_by d e k))

same-cost : (c d : Cost) → c.size ≡ d.size → c.products ≡ d.products → c.depth ≡ d.depth → c ≡ d
same-cost c d p q r = λ i. record { size = p i; products = q i; depth = r i }

cost-same : (c d : Cost) → Dec (c ≡ d)
cost-same c d = go (ℕ_discrete c.size d.size) (ℕ_discrete c.products d.products) (ℕ_discrete c.depth d.depth)
  where
    go : Dec (c.size ≡ d.size) → Dec (c.products ≡ d.products) → Dec (c.depth ≡ d.depth) → Dec (c ≡ d)
    go (no p) q r = no (λ e. p (ap (λ (x : Cost). x.size) e))
    go (yes p) (no q) r = no (λ e. q (ap (λ (x : Cost). x.products) e))
    go (yes p) (yes q) (no r) = no (λ e. r (ap (λ (x : Cost). x.depth) e))
    go (yes p) (yes q) (yes r) = yes (same-cost c d p q r)

-- of two different costs one is better
pub better_total : (c d : Cost) → (c ≡ d → ⊥) → (is_better c d ≡ true) ⊎ (is_better d c ≡ true)
better_total c d n = go (ℕ_discrete c.size d.size) (ℕ_discrete c.products d.products) (ℕ_discrete c.depth d.depth)
  where
    pick : (a b : ℕ) → (a ≡ b → ⊥) → (a < b → Better c d) → (b < a → Better d c) → (is_better c d ≡ true) ⊎ (is_better d c ≡ true)
    pick a b h l r = elim (le_or_lt a b) [ inl x ↦ inl (by_better c d (l (omega arith))) | inr x ↦ inr (by_better d c (r x)) ]

    go : Dec (c.size ≡ d.size) → Dec (c.products ≡ d.products) → Dec (c.depth ≡ d.depth) → (is_better c d ≡ true) ⊎ (is_better d c ≡ true)
    go (no p) q r = pick _ _ p (λ x. size x) (λ x. size x)
    go (yes p) (no q) r = pick _ _ q (λ x. products p x) (λ x. products (sym p) x)
    go (yes p) (yes q) (no r) = pick _ _ r (λ x. depth p q x) (λ x. depth (sym p) (sym q) x)
    go (yes p) (yes q) (yes r) = absurd (n (same-cost c d p q r))

-- what isn't better than something that isn't better isn't better
pub not_better_trans : (c d e : Cost) → is_better c d ≡ false → is_better d e ≡ false → is_better c e ≡ false
not_better_trans c d e h k = elim (bool_cases (is_better c e)) [
  | inr n ↦ n
  | inl b ↦ elim (cost-same c d) [
    | yes q ↦ ap (λ (x : Cost). is_better x e) q ∙ k
    | no n ↦ elim (better_total c d n) [
      | inl y ↦ absurd (true_not_false (sym y ∙ h))
      | inr y ↦ absurd (true_not_false (sym (better_trans d c e y b) ∙ k))
    ]
  ]
]

-- a greater size is never better
pub size-not_better : (c d : Cost) → d.size < c.size → is_better c d ≡ false
size-not_better c d h = sym (by_size c d (λ e. omega arith)) ∙ le-ltb c.size d.size (omega arith)

-- a lesser size always is
pub size_better : (c d : Cost) → c.size < d.size → is_better c d ≡ true
size_better c d h = by_better c d (size h)

-- operands may be exchanged
pub gate_swaps : (n : Bool) (a b : Cost) → under_gate n a b ≡ under_gate n b a
gate_swaps n a b = same-cost (under_gate n a b) (under_gate n b a)
    (ap (λ (x : ℕ). x + cond n 3 1) (add_comm a.size b.size))
    (ap (λ (x : ℕ). x + cond n 1 0) (add_comm a.products b.products))
    (ap (λ (x : ℕ). x + 1) (max_comm a.depth b.depth))
