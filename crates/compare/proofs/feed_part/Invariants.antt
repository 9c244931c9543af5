-- `compare::feed_part` is safe: the numbers of a line fit the buffer. Assumes nothing.
use Rattle.std.proofs.Common.{length, ◌≤◌}
use Rattle.compare.proofs.feed_part.Given as goal

abbrev pub invariant-loop-byte : goal.invariant-loop-byte
invariant-loop-byte g l = l.q.scan.count ≤ length l.numbers
