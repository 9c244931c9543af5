-- Laws of the two orders in which an atom's pairs are tried. Assumes nothing.
use mathlib.Core.Path.{refl, subst}
use mathlib.Core.Bool.{Bool, true, false, cond}
use mathlib.Core.List.{List}
use Prim.Native.Nat.{ℕ, ◌%◌, ◌^◌, ◌<◌}
use native.Mathlib.Omega.{arith}
use Rattle.arrays.specs.Lists.{In, count_up}
use Rattle.arrays.proofs.Lists.{up_in, in_up, in_at, in_place}
use Rattle.index_order.specs.Order.{order_of}
use Rattle.index_order.proofs.OrderLaws.{order-length, order_exactly, order_below, order_once}
use Rattle.search_equation.specs.Equation.{used}
use Rattle.search_product_trial.specs.Trying.{slots_for}

-- ---- both orders of the pair slots hold all slots below n, and no other
module _ (w p t n : ℕ) (listed : List ℕ) where
  in_order : (s : ℕ) → s < n → In s (order_of n listed)
  in_order s h =
      let o = order_once n listed s h in
      let l = order-length n listed in
      subst (λ (k : ℕ). In k (order_of n listed)) o.is (in_at 0 (order_of n listed) o.at (omega (arith, o.within)))

  order_in : (s : ℕ) → In s (order_of n listed) → s < n
  order_in s h =
      let o = in_place 0 s (order_of n listed) h in
      let l = order-length n listed in
      subst (λ (k : ℕ). k < n) o.is (order_below n listed (order_of n listed) ((order_exactly n listed (order_of n listed)).it_does refl) o.at (omega (arith, o.below)))

  pub in_slots : (s : ℕ) → s < n → In s (slots_for w p t n listed)
  unfolding slots_for
  in_slots s h = go (used (p % 2 ^ w) (t % 2 ^ w))
    where
      go : (b : Bool) → In s (cond b (order_of n listed) (count_up 0 n))
      go true = in_order s h
      go false = up_in n s h

  pub slots_in : (s : ℕ) → In s (slots_for w p t n listed) → s < n
  unfolding slots_for
  slots_in s h = go (used (p % 2 ^ w) (t % 2 ^ w)) h
    where
      go : (b : Bool) → In s (cond b (order_of n listed) (count_up 0 n)) → s < n
      go true i = order_in s i
      go false i = in_up n s i
