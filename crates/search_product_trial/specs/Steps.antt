-- What the contracts of src/inner.rt, and of both stages, cite. Assumes nothing.
use Rattle.std.specs.Prelude.{◌≡◌, Bool, true, false, List, ℕ, ◌+◌, ◌*◌, ◌%◌, ◌^◌, ◌≤◌, ◌<◌, length, get_or}
use Rattle.arrays.specs.Parts.{part_at}
use Rattle.search_equation.specs.Equation.{solvable}
use Rattle.search_product_trial.specs.Trying.{fits}

-- whether row a of xs times row b of ys is the target
abbrev pub fits_at : ℕ → List ℕ → List ℕ → ℕ → List ℕ → ℕ → Bool
fits_at w target xs a ys b = fits w target (part_at 16 xs a) (part_at 16 ys b)

-- a target that no refusal turns back
pub record Target (w : ℕ) (target : List ℕ) : Type 0 where
  pub width : w ≤ 64
  pub long : length target ≡ 16
  pub reduced : (j : ℕ) → j < 16 → get_or target j 0 < 2 ^ w

-- r is the first number from `start` on that passes the test, n if there is none
pub record Next (test : ℕ → Bool) (n start r : ℕ) : Type 0 where
  pub from : start ≤ r
  pub to : r ≤ n
  pub skips : (k : ℕ) → start ≤ k → k < r → test k ≡ false
  pub stops : r < n → test r ≡ true

-- whether a row can fit row a: after "no" none does; after "yes" each word's equation has a solution
pub record MayFit (w : ℕ) (target xs : List ℕ) (a : ℕ) (r : Bool) : Type 0 where
  pub never : r ≡ false → (ys : List ℕ) (b : ℕ) → fits_at w target xs a ys b ≡ false
  pub each : r ≡ true → (j : ℕ) → j < 16 → solvable (get_or xs (16 * a + j) 0 % 2 ^ w) (get_or target j 0) ≡ true
