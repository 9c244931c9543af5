-- Lists: counting up, what is laid over an array's first places, membership, what passes a test. Assumes nothing.
use Rattle.std.specs.Prelude.{◌≡◌, Bool, cond, ◌⊎◌, List, [], ◌∷◌, ◌++◌, ℕ, zero, suc, ◌<◌, length, get_or, drop}
use Rattle.std.proofs.Math.Option.{Option, none, some, or_else}

-- i, i + 1, .., n of them
unfoldable pub count_up : ℕ → ℕ → List ℕ
count_up i zero = []
count_up i (suc n) = i ∷ count_up (suc i) n

-- 01, From heap ..: places beyond the count in a lent output stay unchanged. xs from the start of the array on, and after them what it held
abbrev pub laid : List ℕ → List ℕ → List ℕ
laid xs old = xs ++ drop (length xs) old

-- x stands in the list
abbrev pub In : {A : Type 0} → A → List A → Type 0
In x [] = ⊥
In x (y ∷ ys) = (x ≡ y) ⊎ In x ys

-- a place where it stands; d is what stands past the end
pub record Place {A : Type 0} (d x : A) (xs : List A) : Type 0 where
  pub at : ℕ
  pub below : at < length xs
  pub is : get_or xs at d ≡ x

-- the elements that pass the test
unfoldable pub keep : {A : Type 0} → (A → Bool) → List A → List A
keep test [] = []
keep test (x ∷ l) = cond (test x) (x ∷ keep test l) (keep test l)

-- the first element that passes the test, none if none does
unfoldable pub first_that : {A : Type 0} → (A → Bool) → List A → Option A
first_that test [] = none
first_that test (x ∷ l) = cond (test x) (some x) (first_that test l)

-- the first answer that f gives along a list, none if it gives none
unfoldable pub first_of : {A B : Type 0} → (A → Option B) → List A → Option B
unfolding or_else
first_of f [] = none
first_of f (x ∷ l) = or_else (f x) (first_of f l)
