-- Laws of the least slot with a row: one slot more. Assumes nothing.
use mathlib.Core.Path.{◌≡◌, sym, ap, ◌∙◌}
use mathlib.Core.Bool.{Bool, true, false}
use mathlib.Core.List.{List}
use mathlib.Core.Option.{none, some}
use Prim.Native.Nat.{ℕ, suc, ◌+◌, ◌-◌, ◌<◌}
use native.Mathlib.Numerals.{add-one}
use native.Mathlib.Omega.{arith}
use Rattle.arrays.specs.Parts.{part_at}
use Rattle.row_gates.specs.Gates.{same_row}
use Rattle.bank_lookup.specs.Lookup.{least_from}

least-suc : (rows row : List ℕ) (k n m : ℕ) → n ≡ suc m → least_from rows row k n ≡ (elim (same_row (part_at 16 rows k) row) [ true ↦ some k | false ↦ least_from rows row (suc k) m ])
unfolding least_from
least-suc rows row k n m e = ap (least_from rows row k) e

module _ (rows row : List ℕ) (s count : ℕ) (h : s < count) where
  pub least_here : same_row (part_at 16 rows s) row ≡ true → least_from rows row s (count - s) ≡ some s
  least_here e =
      least-suc rows row s (count - s) (count - (s + 1)) (omega arith)
      ∙ ap (λ (b : Bool). elim b [ true ↦ some s | false ↦ least_from rows row (suc s) (count - (s + 1)) ]) e

  pub least-later : same_row (part_at 16 rows s) row ≡ false → least_from rows row s (count - s) ≡ least_from rows row (s + 1) (count - (s + 1))
  least-later e =
      least-suc rows row s (count - s) (count - (s + 1)) (omega arith)
      ∙ ap (λ (b : Bool). elim b [ true ↦ some s | false ↦ least_from rows row (suc s) (count - (s + 1)) ]) e
      ∙ ap (λ (k : ℕ). least_from rows row k (count - (s + 1))) (sym (add-one s))

pub least-none : (rows row : List ℕ) (s n : ℕ) → n ≡ 0 → least_from rows row s n ≡ none
unfolding least_from
least-none rows row s n e = ap (least_from rows row s) e
