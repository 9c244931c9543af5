-- The words of an ordered list and its samples ascend. Assumes nothing.
use mathlib.Core.Path.{◌≡◌, ap, subst}
use mathlib.Core.List.{List}
use mathlib.Core.Logic.{inl, inr}
use Prim.Native.Nat.{ℕ, ◌+◌, ◌-◌, ◌*◌, ◌≤◌, ◌<◌}
use native.Mathlib.Nat.{eq-or-lt_of_le}
use native.Mathlib.Decide.{dec_lt}
use native.Mathlib.Omega.{arith}
use lib.ListN.{length, get_or}
use Rattle.index_order.proofs.OrderLaws.{order_lent}
use Rattle.search_filter.specs.declared.inner.Sorted.{Sorted}
use Rattle.search_filter.specs.Places.{word_at, sample_step, Ordered, Sampled, Reached, Lower}
use Rattle.search_filter.specs.Steps.{Ascends, AfterSamples, Window}
use Rattle.search_filter.specs.Lists.{IsSorted}
use Rattle.search_filter.proofs.Halving.{reached_earlier}

module _ (n : ℕ) (rows order : List ℕ) (o : Ordered n rows order) where
  pub slot-below : (k : ℕ) → k < n → get_or order k 0 < n
  slot-below = (order_lent n rows order o.is).below

  pub words-ascend : Ascends (word_at rows order) n
  words-ascend = record {
    up = λ j k l h. elim (eq-or-lt_of_le {n = j} {m = k} l) [
      | inl e ↦ let q : word_at rows order j ≡ word_at rows order k = ap (word_at rows order) e in omega arith
      | inr lt ↦ ((order_lent n rows order o.is).ascends j k lt h).word
    ];
  }

  -- each word is below t where the last is
  pub words-below : (t v : ℕ) → v ≡ word_at rows order (n - 1) → v < t → (k : ℕ) → k < n → word_at rows order k < t
  words-below t v last lt k h = let up = words-ascend.up k (n - 1) (omega arith) (omega arith) in omega arith

  module _ (samples : List ℕ) (m : ℕ) (sampled : Sampled n rows order samples m) where
    pub samples_ascend : Ascends (λ (j : ℕ). get_or samples j 0) m
    samples_ascend = record {
      up = λ j k l h.
          let a = sampled.is j (omega arith) in
          let b = sampled.is k h in
          let c = words-ascend.up (sample_step * j) (sample_step * k) (omega arith) (sampled.within k h) in
          omega arith;
    }

-- u samples are below the key, which the word at lo is too, and the search goes on from `from`
pub record Narrowed (l : Sorted) (lo key u from : ℕ) : Type 0 where
  pub is : IsSorted l
  pub within : lo < l.n
  pub low : word_at l.rows.now l.order.now lo < key
  pub count : Reached (λ (j : ℕ). get_or l.samples.now j 0) (length l.samples.now) 0 key u
  pub after : AfterSamples lo u from

pub narrowed : (l : Sorted) (lo key : ℕ) {word u from : ℕ} → IsSorted l → lo < l.n → word ≡ word_at l.rows.now l.order.now lo → word < key
    → Reached (λ (j : ℕ). get_or l.samples.now j 0) (length l.samples.now) 0 key u → AfterSamples lo u from → Narrowed l lo key u from
narrowed l lo key is within e low count after = record { is = is; within = within; low = subst (λ (x : ℕ). x < key) e low; count = count; after = after }

module _ (l : Sorted) (lo key u from : ℕ) (x : Narrowed l lo key u from) where
  abbrev n : ℕ
  n = l.n

  abbrev rows : List ℕ
  rows = l.rows.now

  abbrev order : List ℕ
  order = l.order.now

  abbrev m : ℕ
  m = length l.samples.now

  abbrev ascends : Ascends (word_at rows order) n
  ascends = words-ascend n rows order x.is.ordered

  -- the places up to the last of these samples have smaller words
  sampled_before : (k : ℕ) → k + sample_step ≤ sample_step * u → word_at rows order k < key
  sampled_before k h =
      let j = u - 1 in
      let in-u : j < u = omega arith in
      let in-m : j < m = omega (arith, x.count.to) in
      let a = x.count.before j (omega arith) in-u in
      let b = x.is.sampled.is j in-m in
      let d = ascends.up k (sample_step * j) (omega arith) (x.is.sampled.within j in-m) in
      omega arith

  pub from-before : (k : ℕ) → lo ≤ k → k < from → word_at rows order k < key
  from-before k l h = sampled_before k (omega (arith, x.after.to (omega arith)))

  from-within : from ≤ n
  from-within = elim (dec_lt lo from) [
    | yes h ↦
        let in-m : u - 1 < m = omega (arith, x.after.to h, x.count.to) in
        omega (arith, x.after.to h, x.is.sampled.within (u - 1) in-m)
    | no h ↦ omega (arith, x.within, x.after.from)
  ]

  -- the next sample isn't below the key
  pub window-next : u < m → Window l from (sample_step * u) key
  window-next h =
      let top : key ≤ word_at rows order (sample_step * u) = let a = x.count.after u (omega arith) h in let b = x.is.sampled.is u h in omega arith in
      let w = x.is.sampled.within u h in
      record {
        up = elim (dec_lt lo from) [
          | yes l ↦ omega (arith, x.after.to l)
          | no l ↦ elim (dec_lt lo (sample_step * u)) [
            | yes q ↦ omega arith
            | no q ↦ absurd (let d = ascends.up (sample_step * u) lo (omega arith) x.within in let e = x.low in omega arith)
          ]
        ];
        within = omega arith;
        after = λ k a b. let d = ascends.up (sample_step * u) k a b in omega arith;
      }

  pub lower_from : (r : ℕ) → Lower n rows order from key r → Lower n rows order lo key r
  lower_from r d = reached_earlier (word_at rows order) n lo from key r x.after.from from-before d
