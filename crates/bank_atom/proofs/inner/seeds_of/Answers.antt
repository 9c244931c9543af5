-- `bank_atom::inner::seeds_of` meets its contract: what is left to take from here on gives the seeds. Assumes nothing.
use mathlib.Core.Path.{refl}
use Rattle.bank_atom.proofs.SeedLaws.{seeding_first, seeding_more, seeding_done}
use borrow.Author.Rules.{rules}
use native.Mathlib.Omega.{arith}
use Rattle.bank_atom.proofs.inner.seeds_of.Goals as goal

pub overflow_add-most : goal.overflow_add-most
overflow_add-most c = omega (arith, c.with_seed-s.ensures.few)

pub loop-i-init : goal.loop-i-init
loop-i-init c = seeding_first c.args.target _ c.with_seed-s.result _ _ refl c.or_all.ensures c.with_seed-s.ensures refl

pub with_seed-s-requires-in-loop-i : goal.with_seed-s-requires-in-loop-i
with_seed-s-requires-in-loop-i c = let l = c.loop-i in (l.invariant.few, l.invariant.limit)

pub loop-i-preserved : goal.loop-i-preserved
loop-i-preserved c =
    let l = c.loop-i in
    seeding_more c.args.target l.s _ _ l.i (search rules) l.invariant c.with_seed-s-in-loop-i.ensures

pub returns : goal.returns
returns c = let l = c.loop-i in seeding_done c.args.target l.s _ l.i (search rules) l.invariant
