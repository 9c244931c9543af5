-- What the contracts of src/inner.rt, and of the crates that search, cite; a reader of 02's promise needs Trying alone. The residual rows of a search are numbered
-- against its order: the last is that of atom 0 under Xor, and number 0 that of the last atom under Add. Assumes nothing.
use Rattle.std.specs.Prelude.{Bool, cond, List, ℕ, ◌-◌, ◌*◌, ltb}
use Rattle.std.proofs.Math.Option.{Option, none, some}
use Rattle.arrays.specs.Parts.{part_at}
use Rattle.row_gates.specs.Gates.{same_row}
use Rattle.row_gates.specs.declared.Gate.{Gate}
use Rattle.row_gates.specs.declared.Gate.TheVariants.{Xor, Add}
use Rattle.search_residual_trial.specs.declared.inner.Found.{Found}
use Rattle.search_residual_trial.specs.declared.inner.Found.TheVariants.{Atoms, AtomPair}
use Rattle.std.specs.Prelude as Std
use Rattle.search_residual_trial.specs.Trying.{Completion, completing}

-- the outer gate and the atom of residual row t
abbrev pub outer_at : ℕ → ℕ → Gate
outer_at count t = cond (ltb t count) Add Xor

abbrev pub atom_at : ℕ → ℕ → ℕ
atom_at count t = cond (ltb t count) (count - 1 - t) (2 * count - 1 - t)

-- residual row t
unfoldable pub wanted : ℕ → ℕ → List ℕ → List ℕ → ℕ → List ℕ
wanted w count atoms target t = completing (outer_at count t) w target atoms (atom_at count t)

-- whether slot s has it
unfoldable pub same : ℕ → ℕ → List ℕ → List ℕ → List ℕ → ℕ → ℕ → Bool
unfolding same_row part_at wanted
same w count atoms target rows t s = same_row (part_at 16 rows s) (wanted w count atoms target t)

-- what a hit says, and what one or none does
abbrev pub hit_says : Found → Completion
hit_says (Atoms g a b) = Completion.of_atoms g a.0 b.0
hit_says (AtomPair g a s) = Completion.of_pair g a.0 s.0

abbrev pub found_says : Std.Option Found → Option Completion
found_says (Std.Some hit) = some (hit_says hit)
found_says Std.None = none
