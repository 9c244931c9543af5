-- Trying everything, the measure of a residual search: no map, no table. It is fed the width, both counts, the atoms' and the pairs' rows and the target.
-- Assumes nothing.
use Rattle.std.specs.Prelude.{Bool, ℕ}
use mathlib.Core.List.{List, [], ◌∷◌, map, flat_map, ◌++◌}
use Rattle.std.proofs.Math.Option.{Option}
use Rattle.arrays.specs.Lists.{count_up, first_that}
use Rattle.arrays.specs.Parts.{part_at}
use Rattle.row_gates.specs.Gates.{residual_row, same_row}
use Rattle.row_gates.specs.declared.Gate.{Gate}
use Rattle.row_gates.specs.declared.Gate.TheVariants.{Xor, Add}

-- 02, 2.1: the whole of it over Xor, then over Add. The outer gates, in the order of the search
abbrev pub outer_gates : List Gate
outer_gates = Xor ∷ (Add ∷ [])

-- 02, 2.1: with its outer gate and both parts named: two atom slots, or an atom slot and a pair slot. A trial, and an answer
pub data Completion : Type 0 where
  of_atoms : Gate → ℕ → ℕ → Completion
  of_pair : Gate → ℕ → ℕ → Completion

-- 02, 2.1: the row that completes a to the target under the gate; an atom stands for its row
abbrev pub completing : Gate → ℕ → List ℕ → List ℕ → ℕ → List ℕ
completing g w target atoms a = residual_row g w target (part_at 16 atoms a)

-- 02, 2.1: the row is looked up: a lookup hits where it stands, word for word
unfoldable pub hits : ℕ → List ℕ → List ℕ → List ℕ → Completion → Bool
unfolding residual_row same_row part_at
hits w atoms listed target (Completion.of_atoms g a b) = same_row (part_at 16 atoms b) (completing g w target atoms a)
hits w atoms listed target (Completion.of_pair g a s) = same_row (part_at 16 listed s) (completing g w target atoms a)

-- 02, 2.1: looked up, first in the bank, then in the index, least slot first
unfoldable pub lookups : ℕ → ℕ → Gate → ℕ → List Completion
unfolding count_up
lookups count n g a = map (Completion.of_atoms g a) (count_up 0 count) ++ map (Completion.of_pair g a) (count_up 0 n)

-- 02, 2.1: for each atom a ascending. A row that isn't found ends that atom's turn: the next atom's lookups follow
unfoldable pub under_gate : ℕ → ℕ → Gate → List Completion
unfolding flat_map count_up lookups
under_gate count n g = flat_map (lookups count n g) (count_up 0 count)

-- 02, 2.1: the first hit is the answer; none if no lookup hits
unfoldable pub try_residuals : ℕ → ℕ → List ℕ → ℕ → List ℕ → List ℕ → Option Completion
unfolding first_that hits flat_map under_gate
try_residuals w count atoms n listed target = first_that (hits w atoms listed target) (flat_map (under_gate count n) outer_gates)
