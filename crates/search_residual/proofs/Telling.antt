-- Laws of what the two passes tell of one residual row, and of the atoms in order. Assumes nothing.
use mathlib.Core.Path.{◌≡◌, ap, ◌∙◌}
use mathlib.Core.Bool.{Bool, cond}
use mathlib.Core.Option.{none, some}
use Prim.Native.Nat.{ℕ}
use borrow.Author.Tests.{eq-eqb, ne_eqb}
use lib.Dec.{eqb}
use Rattle.row_gates.specs.declared.Gate.{Gate}
use Rattle.search_residual_trial.specs.Trying.{Completion}
use Rattle.search_residual_map.specs.declared.First.{First}
use Rattle.search_residual.specs.Told.{told}

module _ (g : Gate) (a entry : ℕ) (bank index : First) where
  pub told-bank : entry ≡ bank.at → told g a entry bank index ≡ some (Completion.of_atoms g a bank.slot)
  told-bank e = ap (λ (b : Bool). cond b (some (Completion.of_atoms g a bank.slot)) (cond (eqb entry index.at) (some (Completion.of_pair g a index.slot)) none)) (eq-eqb entry bank.at e)

  past-bank : (entry ≡ bank.at → ⊥) → told g a entry bank index ≡ cond (eqb entry index.at) (some (Completion.of_pair g a index.slot)) none
  past-bank n = ap (λ (b : Bool). cond b (some (Completion.of_atoms g a bank.slot)) (cond (eqb entry index.at) (some (Completion.of_pair g a index.slot)) none)) (ne_eqb entry bank.at n)

  pub told-index : (entry ≡ bank.at → ⊥) → entry ≡ index.at → told g a entry bank index ≡ some (Completion.of_pair g a index.slot)
  told-index n e = past-bank n ∙ ap (λ (b : Bool). cond b (some (Completion.of_pair g a index.slot)) none) (eq-eqb entry index.at e)

  pub told_none : (entry ≡ bank.at → ⊥) → (entry ≡ index.at → ⊥) → told g a entry bank index ≡ none
  told_none n m = past-bank n ∙ ap (λ (b : Bool). cond b (some (Completion.of_pair g a index.slot)) none) (ne_eqb entry index.at m)
