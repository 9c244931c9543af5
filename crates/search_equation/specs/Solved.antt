-- What `solve` is asked and what its answer says. Assumes nothing.
use Rattle.std.specs.Prelude.{◌≡◌, true, false, ℕ, ◌-◌, ◌%◌, ◌^◌, ◌≤◌, ◌<◌, eqb, Option, Some, None}
use Rattle.search_equation.specs.declared.inner.Class.{Class}
use Rattle.search_equation.specs.Equation.{zeros_of, used, solves}
use Rattle.search_equation.specs.Facts.{Least}

-- p and t are reduced, and the rule says "used"
pub record Asked (w p t : ℕ) : Type 0 where
  pub width : w ≤ 64
  pub p_below : p < 2 ^ w
  pub t-below : t < 2 ^ w
  pub is-used : used p t ≡ true

-- the solutions, of any size, are the words with the remainder `first` modulo 2^(w - zeros); `first` is the least, and 2^zeros of them, at most 2^8, are below 2^w
pub record IsClass (w p t zeros first : ℕ) : Type 0 where
  pub zeros-is : zeros ≡ zeros_of p
  pub within : zeros ≤ w
  pub few : zeros ≤ 8
  pub least : Least w p t first
  pub is : (f : ℕ) → solves w p t f ≡ eqb (f % 2 ^ (w - zeros)) first

-- no word solves
pub record IsNone (w p t : ℕ) : Type 0 where
  pub is : (f : ℕ) → solves w p t f ≡ false

-- what an answer says: a class, or none
abbrev pub Solved : ℕ → ℕ → ℕ → Option Class → Type 0
Solved w p t (Some k) = IsClass w p t k.zeros k.first
Solved w p t None = IsNone w p t
