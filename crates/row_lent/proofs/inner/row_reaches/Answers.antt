-- `row_lent::inner::row_reaches` meets its contract: the words passed are below 2 ^ w. Assumes nothing.
use mathlib.Core.Path.{sym, ◌∙◌}
use Prim.Native.Nat.{◌^◌}
use borrow.Author.Rules.{rules}
use Rattle.arith.proofs.Remainders.{mask_lt, mask_le}
use Rattle.row_lent.proofs.Reaching.{reaches_here, reaches-later, reaches-none}
use Rattle.row_lent.proofs.inner.row_reaches.Goals as goal

pub returns-then-mask-row : goal.returns-then-mask-row
returns-then-mask-row c =
    sym (sym c.loop-j.invariant.1 ∙ reaches_here (2 ^ c.args.w) c.args.row c.loop-j.j (search rules) (mask_lt c.args.w _ _ c.requires c.loop-j.invariant.0 c.if-mask-row.true))

pub loop-j-preserved : goal.loop-j-preserved
loop-j-preserved c = (
  c.loop-j.invariant.0,
  sym (reaches-later (2 ^ c.args.w) c.args.row c.loop-j.j (search rules) (mask_le c.args.w _ _ c.requires c.loop-j.invariant.0 c.if-mask-row.false)) ∙ c.loop-j.invariant.1,
)

pub returns : goal.returns
returns c =
    sym (sym c.loop-j.invariant.1 ∙ reaches-none (2 ^ c.args.w) c.args.row c.loop-j.j (search rules))
