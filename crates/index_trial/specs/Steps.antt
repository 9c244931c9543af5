-- The steps of a build, as the contracts of src/inner.rt have them. Assumes nothing.
use Rattle.std.specs.Prelude.{◌≡◌, Bool, false, List, [], ◌∷◌, ◌++◌, ℕ, ◌+◌, ◌*◌, ◌^◌, ◌≤◌, ◌<◌, length, take, drop}
use Rattle.limits.specs.Limits.{atoms_max, pairs_max}
use Rattle.arrays.specs.Parts.{encode, put_part}
use Rattle.row_map.specs.Map.{Held, Searchable, home_of}
use Rattle.row_gates.specs.Gates.{gate_number}
use Rattle.row_gates.specs.declared.Gate.{Gate}
use Rattle.index_spec.specs.Index.{Trial, Index, rows_in, rows_of}
use Rattle.index_spec.specs.Trials.{try_all}
use Rattle.index_spec.specs.Encoding.{pair_part}
use Rattle.index_maps.specs.Area.{bank_bits, bank_area}
use Rattle.index_maps.specs.declared.inner.Job.{Job}
use Rattle.index_trial.specs.declared.inner.Tally.{Tally}
use Rattle.index_trial.specs.declared.inner.Build.{Build}
use Rattle.index_trial.specs.declared.inner.Trial as Made

-- the sizes that a build relies on
pub record Sized (job : Job) (rows work pairs pairRows : List ℕ) : Type 0 where
  pub width : job.w ≤ 64
  pub few : job.count ≤ atoms_max
  pub atoms : 16 * job.count ≤ length rows
  pub most : job.limit ≤ pairs_max
  pub pairs-fit : 3 * job.limit ≤ length pairs
  pub rows_fit : 16 * job.limit ≤ length pairRows
  pub heads : job.bits ≤ 31
  pub area : bank_area + (2 ^ job.bits + job.limit) ≤ length work

-- ready for a trial: n pairs are listed, and the area has both maps
pub record Ready (job : Job) (rows work pairs pairRows : List ℕ) (n : ℕ) : Type 0 where
  pub sized : Sized job rows work pairs pairRows
  pub within : n ≤ job.limit
  pub bank-map : Held (take bank_area work) rows bank_bits job.count
  pub pair-map : Held (drop bank_area work) pairRows job.bits n

-- n pairs and the mark are the index's, and the arrays hold it over what they held before
pub record Is (old_pairs oldRows pairs pairRows : List ℕ) (n : ℕ) (cut : Bool) (index : Index) : Type 0 where
  pub count : n ≡ length index.pairs
  pub mark : cut ≡ index.cut
  pub pairs-are : pairs ≡ encode pair_part index.pairs ++ drop (3 * n) old_pairs
  pub rows_are : rows_of n pairRows ≡ rows_in index.pairs
  pub rest : drop (16 * n) pairRows ≡ drop (16 * n) oldRows

-- what trying the trials does: whatever index the arrays held, they hold it after the trials
pub record Ran (job : Job) (rows pairs pairRows : List ℕ) (n : ℕ) (work' pairs' pairRows' : List ℕ) (r : Tally) (ts : List Trial) : Type 0 where
  pub ready : Ready job rows work' pairs' pairRows' r.pairs
  pub index : (old_pairs oldRows : List ℕ) (ix : Index) → Is old_pairs oldRows pairs pairRows n false ix
      → Is old_pairs oldRows pairs' pairRows' r.pairs r.cut (try_all job.w job.limit (rows_of job.count rows) ix ts)

-- what `list_pair` is called with
pub record Listable (job : Job) (n home : ℕ) (row : List ℕ) (b c : ℕ) : Type 0 where
  pub room : n < job.limit
  pub home-is : home ≡ home_of job.bits row
  pub chain : home < 2 ^ job.bits
  pub b-below : b < job.count
  pub c-below : c < job.count

-- what `list_pair` does
pub record ListedPair (job : Job) (rows pairs pairRows work' pairs' pairRows' : List ℕ) (n : ℕ) (g : Gate) (b c : ℕ) (row : List ℕ) : Type 0 where
  pub ready : Ready job rows work' pairs' pairRows' (n + 1)
  pub pairs-are : pairs' ≡ put_part 3 pairs n (gate_number g ∷ (b ∷ (c ∷ [])))
  pub rows_are : pairRows' ≡ put_part 16 pairRows n row

-- a trial by its gate, b and c
abbrev pub trial : Gate → ℕ → ℕ → Trial
trial g b c = record { gate = g; b = b; c = c }

abbrev pub trial_of : Made.Trial → Trial
trial_of t = trial t.gate t.b.0 t.c.0

-- the three words of a pair
abbrev pub words_of : Made.Trial → List ℕ
words_of t = gate_number t.gate ∷ (t.b.0 ∷ (t.c.0 ∷ []))

-- ---- the same of a build and what is lent to it: it is ready, the bank's map has room, and what trials and `list_pair` do
abbrev pub IsReady : Build → ℕ → Type 0
IsReady build n = Ready build.job build.atoms.now build.work.now build.pairs.now build.listed.now n

abbrev pub HasBank : Build → Type 0
HasBank build = (bank_area ≤ length build.work.now) × Searchable (take bank_area build.work.now) bank_bits build.atoms.now build.job.count

abbrev pub Tried : Build → Build → ℕ → Tally → List Trial → Type 0
Tried old new n r ts = Ran old.job old.atoms.now old.pairs.now old.listed.now n new.work.now new.pairs.now new.listed.now r ts

abbrev pub Listed : Build → Build → ℕ → Made.Trial → List ℕ → Type 0
Listed old new n t row = ListedPair old.job old.atoms.now old.pairs.now old.listed.now new.work.now new.pairs.now new.listed.now n t.gate t.b.0 t.c.0 row

-- it is the same build, and holds the same references
pub record SameLent (old new : Build) : Type 0 where
  pub job : new.job ≡ old.job
  pub work : new.work.ghost_name ≡ old.work.ghost_name
  pub pairs : new.pairs.ghost_name ≡ old.pairs.ghost_name
  pub listed : new.listed.ghost_name ≡ old.listed.ghost_name
  pub atoms : new.atoms.now ≡ old.atoms.now
