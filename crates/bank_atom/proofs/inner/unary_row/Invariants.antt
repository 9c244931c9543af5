-- `bank_atom::inner::unary_row` meets its contract: the places passed hold what the token gives there. Assumes nothing.
use mathlib.Core.Path.{◌≡◌}
use Prim.Native.Nat.{ℕ}
use lib.ListN.{length, get_or}
use Rattle.arrays.proofs.Fill.{Filled}
use Rattle.bank_atom.specs.Entry.{unary_of}
use Rattle.bank_atom.proofs.inner.unary_row.Given as goal

abbrev pub invariant-loop-k : goal.invariant-loop-k
invariant-loop-k l =
    (length l.out ≡ 16) × Filled (λ (j : ℕ). unary_of l.u l.w (get_or l.row j 0)) l.out l.k
