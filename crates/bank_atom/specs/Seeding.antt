-- The seeds by value. Assumes nothing.
use Rattle.std.specs.Prelude.{◌≡◌, List, ◌∷◌, ◌++◌, ℕ, ◌-◌, ◌≤◌, take}
use Rattle.bank_spec.specs.Bank.{first_nonzero, seeds_of}
use Rattle.bank_atom.specs.declared.Seeds.{Seeds}

-- the words that are there
abbrev pub seeded : Seeds → List ℕ
seeded s = take s.count s.words

-- 01, Bank: seeds: the OR of the target row, then its first seven nonzero words, repeats counted
pub record AreSeeds (target : List ℕ) (r : Seeds) : Type 0 where
  pub few : r.count ≤ 8
  pub are : seeded r ≡ seeds_of target

-- 01, Bank: zero is never seeded. r is s after the word v, where at most `most` are taken in all: taking on from r gives what taking on from s gives
pub record WithSeed (s : Seeds) (v most : ℕ) (r : Seeds) : Type 0 where
  pub few : r.count ≤ most
  pub same : (more : List ℕ) → seeded r ++ first_nonzero (most - r.count) more ≡ seeded s ++ first_nonzero (most - s.count) (v ∷ more)
