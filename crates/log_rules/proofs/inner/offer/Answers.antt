-- `log_rules::inner::offer` meets its contract: place after place. Assumes nothing.
use Prim.Native.Nat.{ℕ}
use mathlib.Core.Bool.{cond}
use lib.Dec.{eqb}
use lib.ListN.{get_or}
use Rattle.log_rules.specs.Firing.{lesser}
use Rattle.log_rules.proofs.Feeding.{mapped_start, mapped_more}
use borrow.Author.Rules.{rules}
use Rattle.log_rules.proofs.inner.offer.Goals as goal

pub loop-k-init : goal.loop-k-init
loop-k-init c = mapped_start _ _

pub loop-k-preserved : goal.loop-k-preserved
loop-k-preserved c = let a = c.args in
    let l = c.loop-k in
    mapped_more (λ (t x : ℕ). cond (eqb (get_or a.answers.now t 0) 1) (lesser x a.rank) x) a.fired.now l.fired l.k c.offered.result (search rules) c.offered.ensures l.invariant

pub returns : goal.returns
returns c = λ t l. c.loop-k.invariant.done t (search rules)
