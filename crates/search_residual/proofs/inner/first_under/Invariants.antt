-- `search_residual::inner::first_under` meets its contract: none of the atoms passed is told of. Assumes nothing.
use mathlib.Core.Path.{◌≡◌}
use Prim.Native.Nat.{ℕ, ◌-◌}
use Rattle.arrays.specs.Lists.{count_up, first_of}
use Rattle.search_residual.specs.Told.{told, told_under}
use Rattle.search_residual.proofs.inner.first_under.Given as goal

abbrev pub invariant-loop-a : goal.invariant-loop-a
invariant-loop-a l = first_of (λ (a : ℕ). told l.g a (l.top - a) l.bank l.index) (count_up l.a (l.count - l.a)) ≡ told_under l.g l.top l.count l.bank l.index
