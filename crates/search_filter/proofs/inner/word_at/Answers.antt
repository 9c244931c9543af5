-- `search_filter::inner::word_at` meets its contract: a listed slot is below n, so that its row is there. Assumes nothing.
use Prim.Native.Nat.{◌<◌}
use lib.ListN.{get_or}
use native.Mathlib.Omega.{arith}
use Rattle.search_filter.proofs.Words.{slot-below}
use Rattle.search_filter.proofs.inner.word_at.Goals as goal

pub bounds-rows-s : goal.bounds-rows-s
bounds-rows-s c =
    let below : get_or c.args.order.now c.args.k 0 < c.args.n
    = let a = c.args in slot-below a.n a.rows.now a.order.now c.requires.0 a.k c.requires.1 in
    omega (arith, below, c.requires.0.rows_fit)
