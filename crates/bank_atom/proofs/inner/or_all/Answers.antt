-- `bank_atom::inner::or_all` meets its contract: the words passed, from the last on, are joined. Assumes nothing.
use mathlib.Core.Path.{◌≡◌, ap, ◌∙◌}
use Prim.Native.Nat.{ℕ, suc, ◌-◌}
use lib.ListN.{drop}
use Rattle.bank_spec.specs.Bank.{or_all}
use Rattle.bank_atom.proofs.SeedLaws.{or_none, or_more}
use borrow.Author.Rules.{rules}
use Rattle.bank_atom.proofs.inner.or_all.Goals as goal

pub loop-i-init : goal.loop-i-init
loop-i-init c = or_none c.args.target 16 (search rules)

pub loop-i-preserved : goal.loop-i-preserved
loop-i-preserved c =
    let l = c.loop-i in
    let e : l.i ≡ suc (l.i - 1) = search rules in
    or_more c.args.target (l.i - 1) l.all (search rules) (l.invariant ∙ ap (λ (k : ℕ). or_all (drop k c.args.target)) e)

pub returns : goal.returns
returns c =
    let l = c.loop-i in
    let e : l.i ≡ 0 = search rules in
    l.invariant ∙ ap (λ (k : ℕ). or_all (drop k c.args.target)) e
