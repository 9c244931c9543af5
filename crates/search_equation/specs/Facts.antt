-- What holds of the equation's solutions, as types, for every width; proofs/Solutions has their proofs. Assumes nothing.
use Rattle.std.specs.Prelude.{◌≡◌, true, false, ℕ, ◌%◌, ◌^◌, ◌≤◌, ◌<◌}
use Rattle.search_equation.specs.Equation.{zeros_of, solves, running_value}

-- f solves, and nothing smaller does
pub record Least (w p t f : ℕ) : Type 0 where
  pub solution : solves w p t f ≡ true
  pub none_below : (g : ℕ) → g < f → solves w p t g ≡ false

-- f is one of the first 2^z values that the running value from `least` on meets
pub record Met (w p least f : ℕ) : Type 0 where
  pub i : ℕ
  pub few : i < 2 ^ zeros_of p
  pub is : f ≡ running_value w (zeros_of p) least i

-- the 2^z values met from the least solution on ascend, are solutions below 2^w, and no other number below 2^w is one
pub record Solutions (w p t : ℕ) : Type 0 where
  pub least : ℕ
  pub is-least : Least w p t least
  pub ascends : (i j : ℕ) → i < j → j < 2 ^ zeros_of p → running_value w (zeros_of p) least i < running_value w (zeros_of p) least j
  pub each : (f : ℕ) → Met w p least f → (f < 2 ^ w) × (solves w p t f ≡ true)
  pub every : (f : ℕ) → f < 2 ^ w → solves w p t f ≡ true → Met w p least f

-- ---- the facts, for every width, p ≠ 0 below 2^w and every t
-- 02, 2.5: for p ≠ 0 and 2^z dividing t the 2^z values so met ascend and are every solution below 2^w. 02 asks for z at most 8, where the filter looks them up; it holds for every z
abbrev pub KeysBySteps : Type 0
KeysBySteps = (w p t : ℕ) → w ≤ 64 → 0 < p → p < 2 ^ w → t % 2 ^ zeros_of p ≡ 0 → Solutions w p t

-- 01, Candidates: where 2^z doesn't divide t, there are none
abbrev pub NoSolution : Type 0
NoSolution = (w p t : ℕ) → w ≤ 64 → 0 < p → p < 2 ^ w → 0 < t % 2 ^ zeros_of p → (f : ℕ) → solves w p t f ≡ false
