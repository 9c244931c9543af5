-- `bank_stock::inner::difference_from` meets its contract: the next difference of variable i, else the first of the next variable, else the end. Assumes nothing.
use Rattle.bank_stock.proofs.Walk.{difference_here, difference_next, difference_none}
use Rattle.bank_stock.proofs.inner.difference_from.Goals as goal

pub returns-then-at-nv : goal.returns-then-at-nv
returns-then-at-nv c = let s = c.args in difference_here s.nv s.i s.j _ c.skip-at.ensures c.if-at-nv.true

pub returns-then-i-nv : goal.returns-then-i-nv
returns-then-i-nv c = let s = c.args in difference_next s.nv s.i s.j _ c.skip-at.ensures c.if-at-nv.false c.if-i-nv.true

pub returns : goal.returns
returns c = let s = c.args in difference_none s.nv s.i s.j _ c.skip-at.ensures c.if-at-nv.false c.if-i-nv.false
