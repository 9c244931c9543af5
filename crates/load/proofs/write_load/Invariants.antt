-- `load::write_load` ends, since after each call fewer lines are left, and it writes what the load owes. Assumes nothing.
use Rattle.std.proofs.Common.{◌≡◌, length}
use Rattle.load.proofs.Progress.{HasWritten}
use Rattle.load.proofs.write_load.Given as goal

abbrev pub invariant-loop-text : goal.invariant-loop-text
invariant-loop-text g l = record { room : length l.text ≡ 65536; written : HasWritten (g.W.Write.contents l.fn.writer) (g.W.Write.contents l.writer) l.fn.load l.l }

abbrev pub decreases-loop-text : goal.decreases-loop-text
decreases-loop-text g l = l.l.left
