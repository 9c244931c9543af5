-- `bank_stock::inner::next_pair` meets its contract, test by test. Assumes nothing.
use borrow.Author.Tests.{lt-ltb, le-ltb}
use Rattle.bank_stock.specs.Cursor.{next_of}
use Rattle.bank_stock.proofs.inner.next_pair.Goals as goal

pub returns-then-k : goal.returns-then-k
unfolding next_of
returns-then-k c = rw (lt-ltb _ _ c.if-k.true)

pub returns-then-j-nv : goal.returns-then-j-nv
unfolding next_of
returns-then-j-nv c = rw (le-ltb _ _ c.if-k.false, lt-ltb _ _ c.if-j-nv.true)

pub returns-then-i-nv : goal.returns-then-i-nv
unfolding next_of
returns-then-i-nv c = rw (le-ltb _ _ c.if-k.false, le-ltb _ _ c.if-j-nv.false, lt-ltb _ _ c.if-i-nv.true)

pub returns : goal.returns
unfolding next_of
returns c = rw (le-ltb _ _ c.if-k.false, le-ltb _ _ c.if-j-nv.false, le-ltb _ _ c.if-i-nv.false) c.difference_from.ensures
