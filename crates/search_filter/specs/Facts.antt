-- What holds of the keys that a sweep looks for, as types; proofs/Running has their proofs. Assumes nothing.
use Rattle.std.specs.Prelude.{◌≡◌, true, ℕ, ◌^◌, ◌≤◌, ◌<◌}
use Rattle.search_equation.specs.Equation.{solves}
use Rattle.search_equation.specs.Solved.{IsClass}
use Rattle.search_filter.specs.declared.inner.Residue.{Residue}
use Rattle.search_filter.specs.Sweeps.{IsKey}

-- the running value comes to f
pub record Keyed (c : Residue) (f : ℕ) : Type 0 where
  pub left : ℕ
  pub is : IsKey c f left

-- the keys are the solutions below 2^w, ascending, and nothing else
pub record KeysOf (p t : ℕ) (c : Residue) : Type 0 where
  pub ascend : (f g m n : ℕ) → IsKey c f m → IsKey c g n → n < m → f < g
  pub each : (f left : ℕ) → IsKey c f left → (f < 2 ^ c.w) × (solves c.w p t f ≡ true)
  pub every : (f : ℕ) → f < 2 ^ c.w → solves c.w p t f ≡ true → Keyed c f

-- 02, 2.5, of the code's running value: where the class is what `solve` answered, its keys are the solutions below 2^w, ascending
abbrev pub KeysAreSolutions : Type 0
KeysAreSolutions = (w p t zeros first : ℕ) → w ≤ 64 → p < 2 ^ w → IsClass w p t zeros first → KeysOf p t record { w = w; zeros = zeros; first = first }

-- 02, 2.5: with no zeros there is one key, and no step, which would be 2^64 at width 64
abbrev pub OneKeyNoStep : Type 0
OneKeyNoStep = (c : Residue) (key left : ℕ) → c.zeros ≡ 0 → IsKey c key left → (key ≡ c.first) × (left ≡ 1)
