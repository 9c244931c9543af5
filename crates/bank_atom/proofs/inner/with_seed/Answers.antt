-- `bank_atom::inner::with_seed` meets its contract: a zero is passed over, and so is every word once enough are there. Assumes nothing.
use mathlib.Core.Path.{◌≡◌, refl}
use lib.ListN.{length}
use native.Mathlib.Omega.{arith}
use Rattle.bank_atom.proofs.SeedLaws.{seed_zero, seed_full, seed_taken}
use borrow.Author.Rules.{rules}
use Rattle.bank_atom.proofs.inner.with_seed.Goals as goal

pub returns-then-v-eq0 : goal.returns-then-v-eq0
returns-then-v-eq0 c = seed_zero c.args.s c.args.v c.args.most c.requires.0 c.if-v-eq0.true

pub returns-then-count-most : goal.returns-then-count-most
returns-then-count-most c =
    let wide : length c.args.s.words ≡ 8 = search rules in
    seed_taken c.args.s _ c.args.v c.args.most c.if-count-most.true (omega arith) c.if-v-eq0.false refl refl

pub returns : goal.returns
returns c = seed_full c.args.s c.args.v c.args.most c.requires.0 c.if-count-most.false
