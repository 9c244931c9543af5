-- `row_fingerprint::fingerprint` meets its contract: what is folded so far and the words to come give the whole. Assumes nothing.
use mathlib.Core.Path.{◌≡◌}
use lib.ListN.{drop}
use Rattle.row_fingerprint.specs.Fingerprint.{mixed, finished, fingerprint_of}
use Rattle.row_fingerprint.proofs.fingerprint.Given as goal

abbrev pub invariant-loop-i : goal.invariant-loop-i
invariant-loop-i l = finished (mixed l.h (drop l.i l.row)) ≡ fingerprint_of l.row
