-- `bank::inner::points_reach` meets its contract: the words of the points passed are below 2 ^ w. Assumes nothing.
use mathlib.Core.Path.{◌≡◌, refl, sym, ◌∙◌}
use Prim.Native.Nat.{◌^◌}
use borrow.Author.Rules.{rules}
use lib.ListN.{length}
use Rattle.bank.proofs.Reaching.{points_here, points_later, points_none}
use Rattle.bank.proofs.inner.points_reach.Goals as goal

pub loop-p-init : goal.loop-p-init
loop-p-init c = refl

pub returns-then-point_reaches : goal.returns-then-point_reaches
returns-then-point_reaches c =
    let long : length c.args.points ≡ 16 = search rules in
    sym (sym c.loop-p.invariant ∙ points_here (2 ^ c.args.w) c.args.nv c.args.points c.loop-p.p-index _ (search rules) (sym c.point_reaches.ensures ∙ c.if-point_reaches.true))

pub loop-p-preserved : goal.loop-p-preserved
loop-p-preserved c =
    let long : length c.args.points ≡ 16 = search rules in
    sym (points_later (2 ^ c.args.w) c.args.nv c.args.points c.loop-p.p-index _ (search rules) (sym c.point_reaches.ensures ∙ c.if-point_reaches.false)) ∙ c.loop-p.invariant

pub returns : goal.returns
returns c =
    let long : length c.args.points ≡ 16 = search rules in
    sym (sym c.loop-p.invariant ∙ points_none (2 ^ c.args.w) c.args.nv c.args.points c.loop-p.p-index (search rules))
