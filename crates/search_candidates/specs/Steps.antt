-- What the contracts of src/inner.rt cite; no caller needs it. Assumes nothing.
use Rattle.std.specs.Prelude.{◌≡◌, Bool, List, ◌++◌, ℕ, ◌-◌, ◌≤◌, ◌<◌, length, take, drop}
use Rattle.std.proofs.Math.Seq.{paste}
use Rattle.arrays.specs.Lists.{keep}
use Rattle.search_filter.specs.Places.{word_at}

-- the run of places from `at` on that share one first word ends at r; its slots are listed from place k on, and all else is as it was
pub record RunListed (n : ℕ) (rows order old new : List ℕ) (at k r : ℕ) : Type 0 where
  pub more : at < r
  pub to : r ≤ n
  pub same : (i : ℕ) → at ≤ i → i < r → word_at rows order i ≡ word_at rows order at
  pub ends : r < n → word_at rows order r ≡ word_at rows order at → ⊥
  pub whole : new ≡ paste old k (drop at order) (r - at)

-- of the first n slots those that pass the test are listed, r of them; what comes after is as it was
pub record Kept (test : ℕ → Bool) (n : ℕ) (order old new : List ℕ) (r : ℕ) : Type 0 where
  pub within : r ≤ n
  pub count : r ≡ length (keep test (take n order))
  pub whole : new ≡ keep test (take n order) ++ drop r old
