-- `rule_run::inner::feed_row` meets its contract: one record after the other. Assumes nothing.
use Rattle.std.proofs.Common.{◌+◌, refl, ◌∙◌, arith}
use Rattle.rule_run.proofs.Feeding.{fed_at}
use Rattle.rule_run.proofs.inner.feed_row.Goals as goal

pub loop-j-init : goal.loop-j-init
loop-j-init c =
    (refl, λ mark s old e f. fed_at (c.args.at + 0) (omega arith) f)

pub feed-bits-requires : goal.feed-bits-requires
feed-bits-requires c = (omega (arith, c.requires.0, c.loop-j.invariant.0), c.requires.1)

pub loop-j-preserved : goal.loop-j-preserved
loop-j-preserved c =
    let l = c.loop-j in (
      c.feed-bits.auto.answers ∙ l.invariant.0,
      λ mark t old e f.
          fed_at (c.args.at + (l.j + 1)) (omega arith) (c.feed-bits.ensures mark t old (e l.j (omega arith)) (l.invariant.1 mark t old e f)),
    )

pub returns : goal.returns
returns c =
    let l = c.loop-j in
    λ mark t old e f. fed_at (c.args.at + 16) (omega arith) (l.invariant.1 mark t old e f)
