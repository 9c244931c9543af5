-- The work area of a build, as the contracts of src/inner.rt have it. It holds the bank's map in its first 1503 words, 2^10 heads and a link for each of at most 479
-- atoms, and the pairs' map after it. Assumes nothing.
use Rattle.std.specs.Prelude.{◌≡◌, List, ℕ, ◌+◌, ◌*◌, take, drop}
use Rattle.row_map.specs.Map.{Held, Inserted}
use Rattle.index_maps.specs.declared.inner.Job.{Job}

-- `BANK_BITS` and `BANK_AREA` of src/inner.rt are the same numbers
abbrev pub bank_bits : ℕ
bank_bits = 10

abbrev pub bank_area : ℕ
bank_area = 1503

-- 01, From heap ..: a lent work area of 4 × (L + 479) u32. What the bank's map and a link for each pair leave of it, for the heads of the pairs' map
abbrev pub head_room : ℕ → ℕ
head_room L = 3 * L + 413

-- what `prepare` leaves: the map of the bank, and an empty one, of whatever rows
pub record Prepared (job : Job) (rows work : List ℕ) : Type 0 where
  pub bank : Held (take bank_area work) rows bank_bits job.count
  pub pairs : (pairRows : List ℕ) → Held (drop bank_area work) pairRows job.bits 0

-- what `insert_pair` does: the bank's map is as it was
pub record InsertedPair (work work' : List ℕ) (bits n h : ℕ) : Type 0 where
  pub bank : take bank_area work' ≡ take bank_area work
  pub map : Inserted (drop bank_area work) (drop bank_area work') bits n h
