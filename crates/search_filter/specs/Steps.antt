-- What the contracts of the private functions of src/inner.rt cite; no caller needs it. Assumes nothing.
use Rattle.std.specs.Prelude.{◌≡◌, true, List, ℕ, ◌+◌, ◌*◌, ◌^◌, ◌≤◌, ◌<◌, get_or, Option, Some, None}
use Rattle.search_filter.specs.declared.inner.Residue.{Residue}
use Rattle.search_filter.specs.declared.inner.Sorted.{Sorted}
use Rattle.search_filter.specs.declared.inner.Sweep.{Sweep}
use Rattle.search_filter.specs.Places.{word_at, sample_step, Skips}
use Rattle.search_filter.specs.Sweeps.{in_class, IsKey, Sweeping, AtKey}

-- f ascends up to n
pub record Ascends (f : ℕ → ℕ) (n : ℕ) : Type 0 where
  pub up : (j k : ℕ) → j ≤ k → k < n → f j ≤ f k

-- r is lo, or no later than the place after the last of u samples
pub record AfterSamples (lo u r : ℕ) : Type 0 where
  pub from : lo ≤ r
  pub to : lo < r → r + sample_step ≤ sample_step * u + 1

-- a sweep before its first look: all 2^zeros keys are left
pub record Fresh (c : Residue) (s : Sweep) : Type 0 where
  pub at_first : s.at ≡ 0
  pub all_left : s.left ≡ 2 ^ c.zeros
  pub key_is : IsKey c s.key s.left

-- all words from place `to` on are key or more
pub record Window (l : Sorted) (from to key : ℕ) : Type 0 where
  pub up : from ≤ to
  pub within : to ≤ l.n
  pub after : (k : ℕ) → to ≤ k → k < l.n → key ≤ word_at l.rows.now l.order.now k

-- what the tail is looked up by: 2^w, or none where no word is as large
abbrev pub TailKey : ℕ → ℕ → List ℕ → List ℕ → Option ℕ → Type 0
TailKey w n rows order (Some top) = top ≡ 2 ^ w
TailKey w n rows order None = (k : ℕ) → k < n → word_at rows order k < 2 ^ w

-- the keys are passed: from place a on no word of the class is below 2^w
pub record KeysPassed (c : Residue) (n : ℕ) (rows order : List ℕ) (a : ℕ) : Type 0 where
  pub within : a ≤ n
  pub beyond : (k : ℕ) → a ≤ k → k < n → in_class c rows (get_or order k 0) ≡ true → 2 ^ c.w ≤ word_at rows order k

-- the sweep is at the first place from a on whose word is of the class, which is its key, or no key is left
pub record KeySettled (c : Residue) (n : ℕ) (rows order : List ℕ) (a : ℕ) (s : Sweep) : Type 0 where
  pub sweeping : Sweeping c n rows order s
  pub from : a ≤ s.at
  pub skips : Skips (in_class c rows) order a s.at
  pub at_key : AtKey n rows order s
