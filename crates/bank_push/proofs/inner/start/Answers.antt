-- `bank_push::inner::start` meets its contract: a cleared map is the map of no rows. Assumes nothing.
use borrow.Author.Rules.{rules}
use Rattle.bank_push.proofs.Pushing.{started}
use Rattle.bank_push.proofs.inner.start.Goals as goal

pub returns : goal.returns
returns c =
    started c.args.work.now _ c.clear.ensures (search rules)
