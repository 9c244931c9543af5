-- `limits::inner::outside` meets its contract: its two comparisons are the definition's. Assumes nothing.
use borrow.Author.Tests.{lt-ltb, le-ltb}
use Rattle.limits.proofs.inner.outside.Goals as goal

pub returns-then-n-low : goal.returns-then-n-low
returns-then-n-low c = simp (lt-ltb _ _ c.if-n-low.true)

pub returns : goal.returns
returns c = simp (le-ltb _ _ c.if-n-low.false)
