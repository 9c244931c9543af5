-- `log_rules::inner::bad_ranks` meets its contract: place after place. Assumes nothing.
use mathlib.Core.Path.{sym, ◌∙◌}
use mathlib.Core.Bool.{◌||◌}
use Prim.Native.Nat.{ℕ}
use lib.ListN.{get_or}
use Rattle.limits.specs.Refusal.{outside_of}
use Rattle.limits.proofs.Refusals.{or_here, or_later, or_right}
use Rattle.log_rules.specs.Rules.{same_rank}
use Rattle.log_rules.proofs.Tests.{ranks_outside, ranks-at, ranks_good, below_more}
use borrow.Author.Rules.{rules}
use native.Mathlib.Omega.{arith}
use Rattle.log_rules.proofs.inner.bad_ranks.Goals as goal

pub returns-then-outside : goal.returns-then-outside
returns-then-outside c = let a = c.args in ranks_outside a.count a.ranks.now (sym c.outside.ensures ∙ c.if-outside.true)

pub loop-i-init : goal.loop-i-init
loop-i-init c = (sym c.outside.ensures ∙ c.if-outside.false, λ t l. absurd (omega arith))

pub overflow_cast-ranks : goal.overflow_cast-ranks
overflow_cast-ranks c = omega (arith, c.type_inv.ranks c.loop-i.i)

pub returns-then-outside-2 : goal.returns-then-outside-2
returns-then-outside-2 c = let a = c.args in
    let l = c.loop-i in
    ranks-at a.count a.ranks.now l.i (search rules) (or_here _ (sym c.outside-in-loop-i.ensures ∙ c.if-outside-2.true))

pub returns-then-same_rank : goal.returns-then-same_rank
returns-then-same_rank c = let a = c.args in
    let l = c.loop-i in
    ranks-at a.count a.ranks.now l.i (search rules) (or_right (outside_of 1 8 (get_or a.ranks.now l.i 0)) (sym c.same_rank.ensures ∙ c.if-same_rank.true))

pub loop-i-preserved : goal.loop-i-preserved
loop-i-preserved c = let a = c.args in
    let l = c.loop-i in (
      l.invariant.0,
      below_more (λ (t : ℕ). outside_of 1 8 (get_or a.ranks.now t 0) || same_rank a.ranks.now t) l.i l.invariant.1 (or_later (sym c.outside-in-loop-i.ensures ∙ c.if-outside-2.false) (sym c.same_rank.ensures ∙ c.if-same_rank.false)),
    )

pub returns : goal.returns
returns c = let a = c.args in
    let l = c.loop-i in
    ranks_good a.count a.ranks.now l.invariant.0 (λ t h. l.invariant.1 t (search rules))
