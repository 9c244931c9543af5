-- `bank::inner::point_reaches` meets its contract: the words passed are below 2 ^ w. Assumes nothing.
use mathlib.Core.Path.{◌≡◌, refl, sym, ◌∙◌}
use Prim.Native.Nat.{◌^◌, ◌≤◌, ◌<◌}
use borrow.Author.Rules.{rules}
use lib.ListN.{length, get_or, take}
use lib.Seq.{length-take-le, get_or-take}
use Rattle.arith.proofs.Remainders.{mask_lt, mask_le}
use Rattle.row_lent.proofs.Reaching.{reaches_here, reaches-later, reaches-none}
use Rattle.bank.proofs.inner.point_reaches.Goals as goal

pub loop-i-init : goal.loop-i-init
loop-i-init c = (c.bitmask-mask.ensures, refl)

pub returns-then-mask-p : goal.returns-then-mask-p
returns-then-mask-p c =
    let i = c.loop-i.i in
    let six : length c.args.p.words ≡ 6 = search rules in
    let long : length (take c.args.nv c.args.p.words) ≡ c.args.nv = length-take-le c.args.nv c.args.p.words (search rules) in
    let same = get_or-take c.args.nv c.args.p.words i 0 (search rules) in
    let big : 2 ^ c.args.w ≤ get_or c.args.p.words i 0 = mask_lt c.args.w _ _ c.requires.1 c.loop-i.invariant.0 c.if-mask-p.true in
    sym (sym c.loop-i.invariant.1 ∙ reaches_here (2 ^ c.args.w) (take c.args.nv c.args.p.words) i (search rules) (search rules))

pub loop-i-preserved : goal.loop-i-preserved
loop-i-preserved c =
    let i = c.loop-i.i in
    let six : length c.args.p.words ≡ 6 = search rules in
    let long : length (take c.args.nv c.args.p.words) ≡ c.args.nv = length-take-le c.args.nv c.args.p.words (search rules) in
    let same = get_or-take c.args.nv c.args.p.words i 0 (search rules) in
    let small : get_or c.args.p.words i 0 < 2 ^ c.args.w = mask_le c.args.w _ _ c.requires.1 c.loop-i.invariant.0 c.if-mask-p.false in (
      c.loop-i.invariant.0,
      sym (reaches-later (2 ^ c.args.w) (take c.args.nv c.args.p.words) i (search rules) (search rules)) ∙ c.loop-i.invariant.1,
    )

pub returns : goal.returns
returns c =
    let six : length c.args.p.words ≡ 6 = search rules in
    let long : length (take c.args.nv c.args.p.words) ≡ c.args.nv = length-take-le c.args.nv c.args.p.words (search rules) in
    sym (sym c.loop-i.invariant.1 ∙ reaches-none (2 ^ c.args.w) (take c.args.nv c.args.p.words) c.loop-i.i (search rules))
