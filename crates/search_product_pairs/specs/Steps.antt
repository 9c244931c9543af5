-- What the contracts of src/inner.rt cite; no caller needs it. Assumes nothing.
use Rattle.std.specs.Prelude.{◌≡◌, Bool, true, List, ℕ, ◌≤◌, ◌<◌, get_or, Result, Ok, Err}
use Rattle.search_filter.specs.declared.inner.Residue.{Residue}
use Rattle.search_filter.specs.Places.{Skips}
use Rattle.search_filter.specs.Sweeps.{in_class}
use Rattle.search_product_trial.specs.Steps.{fits_at}

-- what fits atom a is of the class
pub record Narrows (w : ℕ) (target atoms : List ℕ) (a : ℕ) (listed : List ℕ) (class : Residue) : Type 0 where
  pub is : (s : ℕ) → fits_at w target atoms a listed s ≡ true → in_class class listed s ≡ true

-- k is the first place from `at` on that passes the test
pub record Hit (test : ℕ → Bool) (n : ℕ) (order : List ℕ) (at k : ℕ) : Type 0 where
  pub from : at ≤ k
  pub below : k < n
  pub skips : Skips test order at k
  pub passes : test (get_or order k 0) ≡ true

-- no place from `at` up to k passes; k is a place further on at least
pub record Passed (test : ℕ → Bool) (n : ℕ) (order : List ℕ) (at k : ℕ) : Type 0 where
  pub past : at < k
  pub to : k ≤ n
  pub skips : Skips test order at k

-- where a walk from place `at` on stops: at a place that passes, or after the places that don't
abbrev pub Stopped : (ℕ → Bool) → ℕ → List ℕ → ℕ → Result ℕ ℕ → Type 0
Stopped test n order at (Ok k) = Hit test n order at k
Stopped test n order at (Err k) = Passed test n order at k
