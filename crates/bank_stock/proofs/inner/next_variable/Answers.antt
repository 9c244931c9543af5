-- `bank_stock::inner::next_variable` meets its contract, test by test. Assumes nothing.
use borrow.Author.Tests.{lt-ltb, le-ltb}
use Rattle.bank_stock.specs.Cursor.{next_of}
use Rattle.bank_stock.proofs.inner.next_variable.Goals as goal

pub returns-then-k-lt-FORMS : goal.returns-then-k-lt-FORMS
unfolding next_of
returns-then-k-lt-FORMS c = rw (lt-ltb _ _ c.if-k-lt-FORMS.true)

pub returns-then-i-nv : goal.returns-then-i-nv
unfolding next_of
returns-then-i-nv c = rw (le-ltb _ _ c.if-k-lt-FORMS.false, lt-ltb _ _ c.if-i-nv.true)

pub returns : goal.returns
unfolding next_of
returns c = rw (le-ltb _ _ c.if-k-lt-FORMS.false, le-ltb _ _ c.if-i-nv.false)
