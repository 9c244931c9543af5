-- `compare::read_all` is safe: the numbers of a line fit the buffer. Assumes nothing.
use Rattle.std.proofs.Common.{length, ◌≤◌}
use Rattle.compare.proofs.read_all.Given as goal

abbrev pub invariant-loop : goal.invariant-loop
invariant-loop g l = l.q.scan.count ≤ length l.numbers
