-- `bank_push::inner::push` meets its contract: the map finds the slot that `push` finds in the list, and each arm does there what `push` does. Assumes nothing.
use native.Mathlib.Omega.{arith}
use Rattle.row_map.proofs.MapLaws.{lookup_at, lookup_free}
use Rattle.bank_parts.specs.Lent.{arrays_of}
use Rattle.bank_push.proofs.Pushing.{pushed_held, pushed_new}
use Rattle.bank_push.proofs.inner.push.Goals as goal

pub replace_if_better-requires : goal.replace_if_better-requires
replace_if_better-requires c =
    let hit = lookup_at 10 c.in-At.is c.find-found.ensures in
    (omega (arith, c.requires.n_bound, hit.below), c.requires.ready.room.texts)

pub returns-in-At-clause-pushed : goal.returns-in-At-clause-pushed
returns-in-At-clause-pushed c =
    let s = c.args in
    pushed_held (arrays_of s.bank.now) (arrays_of c.replace_if_better.new.bank) s.work.now s.n s.e _ c.requires.ready
    c.replace_if_better.ensures.room (lookup_at 10 c.in-At.is c.find-found.ensures) c.replace_if_better.ensures.texts c.replace_if_better.ensures.rows

pub returns-in-Free-clause-pushed : goal.returns-in-Free-clause-pushed
returns-in-Free-clause-pushed c =
    let s = c.args in
    pushed_new (arrays_of s.bank.now) _ _ s.n s.e _ (lookup_free c.in-Free.is c.find-found.ensures) c.append.ensures.appended
