-- Laws of one trial: a row completes an atom exactly if each of its words does. Assumes nothing.
use mathlib.Core.Path.{◌≡◌, sym, ap, ◌∙◌}
use mathlib.Core.Bool.{true, false}
use mathlib.Core.List.{List}
use Prim.Native.Nat.{ℕ, ◌+◌, ◌*◌, ◌≤◌, ◌<◌}
use native.Mathlib.Omega.{arith}
use lib.ListN.{length, get_or}
use lib.Seq.{ext_get_or}
use Rattle.arrays.specs.Parts.{part_at}
use Rattle.arrays.proofs.Parts.{length-part, get_d_part}
use Rattle.row_gates.specs.Gates.{residual_of, same_row}
use Rattle.row_gates.specs.declared.Gate.{Gate}
use Rattle.row_gates.proofs.Rows.{length-residual_row, get_or-residual_row, same-row_of, same-row-not}
use Rattle.search_residual_trial.specs.Trying.{completing}

-- word j of the row that completes atom a
abbrev pub lane : Gate → ℕ → List ℕ → List ℕ → ℕ → ℕ → ℕ
lane g w target atoms a j = residual_of g w (get_or target j 0) (get_or atoms (16 * a + j) 0)

module _ (g : Gate) (w : ℕ) (target atoms : List ℕ) (a : ℕ) (long : length target ≡ 16) (fit : 16 * a + 16 ≤ length atoms) where
  pub completing-long : length (completing g w target atoms a) ≡ 16
  completing-long = length-residual_row g w target (part_at 16 atoms a) (long ∙ sym (length-part 16 atoms a fit)) ∙ long

  pub completing-word : (j : ℕ) → j < 16 → get_or (completing g w target atoms a) j 0 ≡ lane g w target atoms a j
  completing-word j h =
      get_or-residual_row g w target (part_at 16 atoms a) j (omega arith) (omega (arith, length-part 16 atoms a fit))
      ∙ ap (λ (x : ℕ). residual_of g w (get_or target j 0) x) (get_d_part 16 atoms a j h)

  module _ (rows : List ℕ) (slot : ℕ) (room : 16 * slot + 16 ≤ length rows) where
    -- one word that differs
    pub completes_not : (j : ℕ) → j < 16 → (get_or rows (16 * slot + j) 0 ≡ lane g w target atoms a j → ⊥) → same_row (part_at 16 rows slot) (completing g w target atoms a) ≡ false
    completes_not j h n =
        same-row-not (part_at 16 rows slot) (completing g w target atoms a)
        (λ e. n (sym (get_d_part 16 rows slot j h) ∙ ap (λ (l : List ℕ). get_or l j 0) e ∙ completing-word j h))

    -- all words
    pub completes_all : ((j : ℕ) → j < 16 → get_or rows (16 * slot + j) 0 ≡ lane g w target atoms a j) → same_row (part_at 16 rows slot) (completing g w target atoms a) ≡ true
    completes_all each =
        let lr = length-part 16 rows slot room in
        same-row_of (ext_get_or 0 (part_at 16 rows slot) (completing g w target atoms a) (lr ∙ sym completing-long)
        (λ j h. let small : j < 16 = omega arith in get_d_part 16 rows slot j small ∙ each j small ∙ sym (completing-word j small)))
