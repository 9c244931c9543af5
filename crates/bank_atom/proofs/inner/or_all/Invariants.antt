-- `bank_atom::inner::or_all` meets its contract: the words passed, from the last on, are joined. Assumes nothing.
use mathlib.Core.Path.{◌≡◌}
use lib.ListN.{drop}
use Rattle.bank_spec.specs.Bank.{or_all}
use Rattle.bank_atom.proofs.inner.or_all.Given as goal

abbrev pub invariant-loop-i : goal.invariant-loop-i
invariant-loop-i l = l.all ≡ or_all (drop l.i l.target)
