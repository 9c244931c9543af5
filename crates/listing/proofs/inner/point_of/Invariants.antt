-- `listing::inner::point_of` meets its contract: the words stored are the first of the point, zeros follow. Assumes nothing.
use mathlib.Core.Path.{◌≡◌}
use lib.ListN.{length, take, drop}
use Rattle.bank_spec.specs.Encoding.{pad_to}
use Rattle.listing.proofs.inner.point_of.Given as goal

abbrev pub invariant-loop-i : goal.invariant-loop-i
invariant-loop-i l = (length l.words ≡ 6) × (l.words ≡ pad_to 6 0 (take l.i (drop l.base l.numbers)))
