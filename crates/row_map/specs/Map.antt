-- The map from rows to slots in a lent work area. A row is found by its sixteen words: its fingerprint only says where to look. Assumes nothing.
use Rattle.std.specs.Prelude.{◌≡◌, List, ◌++◌, ℕ, ◌+◌, ◌*◌, ◌%◌, ◌^◌, ◌≤◌, ◌<◌, length, get_or, drop, replicate}
use Rattle.arrays.specs.Parts.{part_at}
use Rattle.row_fingerprint.specs.Fingerprint.{fingerprint_of}
use Rattle.row_map.specs.declared.Lookup.{Lookup}
use Rattle.row_map.specs.declared.Lookup.TheVariants.{At, Free}

-- which of the 2^bits chains a row belongs in (docs/DECISIONS.md, B11)
unfoldable pub home_of : ℕ → List ℕ → ℕ
home_of bits row = fingerprint_of row % 2 ^ bits

-- ---- chains: each slot t is in chain `home t`
-- entry v is that of the newest slot below n in chain h: the slot plus one, or 0 where the chain has none
pub record Top (home : ℕ → ℕ) (n h v : ℕ) : Type 0 where
  pub within : v ≤ n
  pub homed : (s : ℕ) → v ≡ s + 1 → home s ≡ h
  pub newest : (t : ℕ) → v ≤ t → t < n → home t ≡ h → ⊥

-- the area holds the chains of the first n slots: the heads of 2^bits chains, and then for each slot a link to the newest slot below it in its chain
pub record Chained (work : List ℕ) (home : ℕ → ℕ) (bits n : ℕ) : Type 0 where
  pub heads : (h : ℕ) → h < 2 ^ bits → Top home n h (get_or work h 0)
  pub links : (t : ℕ) → t < n → Top home t (home t) (get_or work (2 ^ bits + t) 0)

-- the chain of each row of an array
abbrev pub homes_of : ℕ → List ℕ → ℕ → ℕ
homes_of bits rows t = home_of bits (part_at 16 rows t)

-- 01, From heap ..: `ValMap` becomes a lent work area of 4 × (L + 479) u32. The area holds the map of the first n rows
pub record Held (work rows : List ℕ) (bits n : ℕ) : Type 0 where
  pub chained : Chained work (homes_of bits rows) bits n

-- what `clear` leaves: no chain has a slot, and the links are as they were
unfoldable pub cleared : ℕ → List ℕ → List ℕ
cleared bits work = replicate (2 ^ bits) 0 ++ drop (2 ^ bits) work

-- what `find` is called with
pub record Searchable (work : List ℕ) (bits : ℕ) (rows : List ℕ) (n : ℕ) : Type 0 where
  pub small : bits ≤ 31
  pub links : 2 ^ bits + n ≤ length work
  pub filled : 16 * n ≤ length rows
  pub held : Held work rows bits n

-- 01, `fingerprint`: equal fingerprints never stand for equal rows. Slot s is the newest of the first n whose sixteen words are the row's
pub record Hit (rows : List ℕ) (n : ℕ) (row : List ℕ) (s : ℕ) : Type 0 where
  pub below : s < n
  pub same : part_at 16 rows s ≡ row
  pub newest : (t : ℕ) → s < t → t < n → part_at 16 rows t ≡ row → ⊥

-- none of the first n slots has the row, and h is the chain that it belongs in
pub record Miss (bits : ℕ) (rows : List ℕ) (n : ℕ) (row : List ℕ) (h : ℕ) : Type 0 where
  pub none : (t : ℕ) → t < n → part_at 16 rows t ≡ row → ⊥
  pub home : h ≡ home_of bits row
  pub small : h < 2 ^ bits

-- what each case of `Lookup` says
abbrev pub FindOk : ℕ → List ℕ → ℕ → List ℕ → Lookup → Type 0
FindOk bits rows n row (At s) = Hit rows n row s
FindOk bits rows n row (Free h) = Miss bits rows n row h

-- what `insert` is called with: a link for slot n, which a u32 holds, and one of the chains
pub record Room (work : List ℕ) (bits n h : ℕ) : Type 0 where
  pub small : bits ≤ 31
  pub link : 2 ^ bits + n < length work
  pub entry : n + 1 < 2 ^ 32
  pub chain : h < 2 ^ bits

-- what `insert` does: whatever the slots' chains are, if h is that of slot n, then the chains of the first n are those of the first n + 1
pub record Inserted (work work' : List ℕ) (bits n h : ℕ) : Type 0 where
  pub chained : (home : ℕ → ℕ) → Chained work home bits n → h ≡ home n → Chained work' home bits (n + 1)
