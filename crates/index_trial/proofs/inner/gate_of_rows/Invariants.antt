-- `index_trial::inner::gate_of_rows` meets its contract: the places passed hold what `gate_of` gives there. Assumes nothing.
use mathlib.Core.Path.{◌≡◌}
use Prim.Native.Nat.{ℕ, ◌+◌}
use lib.ListN.{length, get_or}
use Rattle.arrays.proofs.Fill.{Filled}
use Rattle.row_gates.specs.Gates.{gate_of}
use Rattle.index_trial.proofs.inner.gate_of_rows.Given as goal

abbrev pub invariant-loop-i : goal.invariant-loop-i
invariant-loop-i l =
    (length l.row ≡ 16) × Filled (λ (k : ℕ). gate_of l.t.gate l.w (get_or l.atoms (l.at_b + k) 0) (get_or l.atoms (l.at_c + k) 0)) l.row l.i
