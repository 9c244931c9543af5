-- `compare_logs::values_at` is safe: the array keeps its 10 places. Assumes nothing.
use mathlib.Core.Path.{◌≡◌}
use lib.ListN.{length}
use Rattle.compare_logs.proofs.values_at.Given as goal

abbrev pub invariant-loop-i : goal.invariant-loop-i
invariant-loop-i l = length l.values ≡ 10
