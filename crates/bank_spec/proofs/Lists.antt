-- A property of every element of a list. Assumes nothing.
use mathlib.Core.List.{List, [], ◌∷◌, ◌++◌, map, flat_map}
use Prim.Native.Nat.{ℕ, zero, suc, ◌<◌}
use native.Mathlib.Omega.{arith}
use lib.ListN.{length, get_or, set}

-- P of every element
abbrev pub Every : {A : Type 0} → (A → Type 0) → List A → Type 0
Every P [] = Unit {0}
Every P (a ∷ l) = P a × Every P l

module _ {A : Type 0} (P : A → Type 0) where
  -- P at each place
  pub every-at : (l : List A) (d : A) → Every P l → (k : ℕ) → k < length l → P (get_or l k d)
  every-at [] d e k h = absurd (omega arith)
  every-at (a ∷ l) d e zero h = e.0
  every-at (a ∷ l) d e (suc k) h = every-at l d e.1 k (omega arith)

  -- of two lists, one after the other
  pub every_append : (l m : List A) → Every P l → Every P m → Every P (l ++ m)
  every_append [] m e f = f
  every_append (a ∷ l) m e f = (e.0, every_append l m e.1 f)

  -- with one element replaced
  pub every_set : (l : List A) (k : ℕ) (a : A) → Every P l → P a → Every P (set l k a)
  every_set [] k a e p = tt
  every_set (b ∷ l) zero a e p = (p, e.1)
  every_set (b ∷ l) (suc k) a e p = (e.0, every_set l k a e.1 p)

  -- what follows from P
  pub every_more : (Q : A → Type 0) → ((a : A) → P a → Q a) → (l : List A) → Every P l → Every Q l
  every_more Q f [] e = tt
  every_more Q f (a ∷ l) e = (f a e.0, every_more Q f l e.1)

-- what f makes of elements with P has Q
module _ {A B : Type 0} (P : A → Type 0) (Q : B → Type 0) where
  -- of the mapped list
  pub every_map : (f : A → B) → ((a : A) → P a → Q (f a)) → (l : List A) → Every P l → Every Q (map f l)
  every_map f h [] e = tt
  every_map f h (a ∷ l) e = (h a e.0, every_map f h l e.1)

  -- where f gives a list for each
  pub every-flat_map : (f : A → List B) → ((a : A) → P a → Every Q (f a)) → (l : List A) → Every P l → Every Q (flat_map f l)
  unfolding flat_map
  every-flat_map f h [] e = tt
  every-flat_map f h (a ∷ l) e = every_append Q (f a) (flat_map f l) (h a e.0) (every-flat_map f h l e.1)
