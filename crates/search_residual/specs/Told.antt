-- What the contracts of src/inner.rt cite: what the two passes tell of an atom's residual row. Assumes nothing.
use Rattle.std.specs.Prelude.{◌≡◌, cond, List, ℕ, ◌-◌, ◌*◌, ◌^◌, ◌≤◌, ◌<◌, eqb, length, get_or}
use Rattle.std.proofs.Math.Option.{Option, none, some, or_else}
use Rattle.arrays.specs.Lists.{count_up, first_of}
use Rattle.limits.specs.Limits.{atoms_max, pairs_max}
use Rattle.row_gates.specs.declared.Gate.{Gate}
use Rattle.row_gates.specs.declared.Gate.TheVariants.{Xor, Add}
use Rattle.search_residual_trial.specs.Trying.{Completion}
use Rattle.search_residual_map.specs.declared.First.{First}
use Rattle.search_residual.specs.declared.inner.Part.{Part}
use Rattle.search_residual.specs.declared.inner.Part.TheVariants.{Atom, Pair}
use Rattle.std.specs.Prelude as Std

-- what no refusal turns back
pub record Lent (w count : ℕ) (atoms : List ℕ) (n : ℕ) (listed target : List ℕ) : Type 0 where
  pub width : w ≤ 64
  pub few : count ≤ atoms_max
  pub atoms-fit : 16 * count ≤ length atoms
  pub most : n ≤ pairs_max
  pub rows_fit : 16 * n ≤ length listed
  pub long : length target ≡ 16
  pub reduced : (j : ℕ) → j < 16 → get_or target j 0 < 2 ^ w

-- what each case of `Part`, and a lookup, says of atom a under g
abbrev pub part_says : Gate → ℕ → Part → Completion
part_says g a (Atom b) = Completion.of_atoms g a b.0
part_says g a (Pair s) = Completion.of_pair g a s.0

abbrev pub lookup_says : Gate → ℕ → Std.Option Part → Option Completion
lookup_says g a (Std.Some part) = some (part_says g a part)
lookup_says g a Std.None = none

-- 02, 2.1: first in the bank, then in the index. What the passes over them tell of the residual row with this entry, which is that of atom a under g
abbrev pub told : Gate → ℕ → ℕ → First → First → Option Completion
told g a entry bank index =
    cond (eqb entry bank.at) (some (Completion.of_atoms g a bank.slot))
    (cond (eqb entry index.at) (some (Completion.of_pair g a index.slot)) none)

-- 02, 2.1: for each atom a ascending; the entry of atom 0 is given
abbrev pub told_under : Gate → ℕ → ℕ → First → First → Option Completion
told_under g top count bank index = first_of (λ (a : ℕ). told g a (top - a) bank index) (count_up 0 count)

-- 02, 2.1: the whole of it over Xor, then over Add
abbrev pub told_first : ℕ → First → First → Option Completion
told_first count bank index = or_else (told_under Xor (2 * count) count bank index) (told_under Add count count bank index)
