-- `bank_atom::inner::variable_row` meets its contract: the places passed hold the reduced word of their points. Assumes nothing.
use mathlib.Core.Path.{◌≡◌}
use mathlib.Core.List.{[], ◌∷◌}
use Prim.Native.Nat.{ℕ}
use lib.ListN.{length, get_or}
use Rattle.arrays.proofs.Fill.{Filled}
use Rattle.expr.specs.declared.Token.TheVariants.{Variable}
use Rattle.probe.specs.FormulaRow.{row_of}
use Rattle.bank_atom.proofs.inner.variable_row.Given as goal

abbrev pub invariant-loop-k : goal.invariant-loop-k
invariant-loop-k l =
    (length l.row ≡ 16) × Filled (λ (j : ℕ). get_or (row_of l.w l.points (Variable l.i ∷ [])) j 0) l.row l.k
