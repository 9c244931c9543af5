-- `bank_atom::inner::seeds_of` meets its contract: what is left to take from here on gives the seeds. Assumes nothing.
use Rattle.bank_atom.proofs.SeedLaws.{Seeding}
use Rattle.bank_atom.proofs.inner.seeds_of.Given as goal

abbrev pub invariant-loop-i : goal.invariant-loop-i
invariant-loop-i l = Seeding l.target l.s l.most l.i
