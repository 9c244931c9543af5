-- The map of the residual rows, as the contracts of src/inner.rt have it. Where a row is looked for depends on it, what is found doesn't. Assumes nothing.
use Rattle.std.specs.Prelude.{◌≡◌, ℕ, suc, ◌+◌, ◌*◌, ◌/◌, ◌%◌, ◌^◌, ◌<◌, ◌≤◌, Bool, true, false, List, [], ◌∷◌, length, bit_xor}
use Rattle.limits.specs.Limits.{atoms_max}
use Rattle.row_map.specs.Map.{Chained}
use Rattle.search_residual_trial.specs.Steps.{wanted, same}
use Rattle.search_residual_trial.specs.declared.inner.Search.{Search}

-- `MIX` of src/inner.rt is the same number
abbrev pub mixer : ℕ
mixer = 0x9e3779b97f4a7c15

-- the two halves of a word exchanged
unfoldable pub swapped_of : ℕ → ℕ
swapped_of x = (x * 2 ^ 32 % 2 ^ 64 + x / 2 ^ 32) % 2 ^ 64

-- the sum of the words, two by two, times powers of the constant, modulo 2^64
unfoldable pub mixed_from : ℕ → ℕ → List ℕ → ℕ
mixed_from sum power [] = sum
mixed_from sum power (x ∷ []) = sum
mixed_from sum power (x ∷ (y ∷ row)) = mixed_from ((sum + bit_xor x (swapped_of y) * power % 2 ^ 64) % 2 ^ 64) (power * mixer % 2 ^ 64) row

unfoldable pub mixed : List ℕ → ℕ
unfolding mixed_from
mixed row = mixed_from 0 mixer row

-- which of the 2^12 chains a row belongs in
unfoldable pub home_of : List ℕ → ℕ
unfolding mixed
home_of row = mixed row / 2 ^ 52

-- what no refusal turns back
pub record Asked (w count : ℕ) (atoms target : List ℕ) : Type 0 where
  pub width : w ≤ 64
  pub few : count ≤ atoms_max
  pub fit : 16 * count ≤ length atoms
  pub long : length target ≡ 16

-- the area holds the chains of the first n residual rows
pub record Wanted (w count : ℕ) (atoms target work : List ℕ) (n : ℕ) : Type 0 where
  pub long : length work ≡ 5054
  pub chained : Chained work (λ (t : ℕ). home_of (wanted w count atoms target t)) 12 n

-- what `walk` answers of row `slot`: the greatest entry above `beaten` whose residual row it is, or `beaten`
pub record Read (w count : ℕ) (atoms target rows : List ℕ) (slot beaten entry : ℕ) : Type 0 where
  pub least : beaten ≤ entry
  pub most : entry ≤ 2 * count
  pub none : (t : ℕ) → entry ≤ t → t < 2 * count → same w count atoms target rows t slot ≡ false
  pub hit : (t : ℕ) → entry ≡ suc t → beaten ≤ t → same w count atoms target rows t slot ≡ true

-- residual row t is in slot `found`, and in none before it
pub record LeastSlot (w count : ℕ) (atoms target rows : List ℕ) (n t found : ℕ) : Type 0 where
  pub below : found < n
  pub is : same w count atoms target rows t found ≡ true
  pub least : (s : ℕ) → s < found → same w count atoms target rows t s ≡ false

-- 02, 2.1: the first hit, least slot first. The same of the first n rows: no slot has a residual row from `entry` on, and `found` is the least that has the one before it
pub record Best (w count : ℕ) (atoms target rows : List ℕ) (n beaten entry found : ℕ) : Type 0 where
  pub least : beaten ≤ entry
  pub most : entry ≤ 2 * count
  pub none : (t : ℕ) → entry ≤ t → t < 2 * count → (s : ℕ) → s < n → same w count atoms target rows t s ≡ false
  pub hit : (t : ℕ) → entry ≡ suc t → beaten ≤ t → LeastSlot w count atoms target rows n t found

-- ---- the same of a search's own width, count, atoms and target
abbrev pub IsAsked : Search → Type 0
IsAsked search = Asked search.w search.count search.atoms.now search.target

abbrev pub HasWanted : Search → List ℕ → ℕ → Type 0
HasWanted search work n = Wanted search.w search.count search.atoms.now search.target work n

abbrev pub same_by : Search → List ℕ → ℕ → ℕ → Bool
same_by search rows t slot = same search.w search.count search.atoms.now search.target rows t slot

abbrev pub ReadBy : Search → List ℕ → ℕ → ℕ → ℕ → Type 0
ReadBy search rows slot beaten entry = Read search.w search.count search.atoms.now search.target rows slot beaten entry

abbrev pub BestBy : Search → List ℕ → ℕ → ℕ → ℕ → ℕ → Type 0
BestBy search rows n beaten entry found = Best search.w search.count search.atoms.now search.target rows n beaten entry found
