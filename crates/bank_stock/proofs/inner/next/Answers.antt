-- `bank_stock::inner::next` meets its contract, place by place. Assumes nothing.
use mathlib.Core.Path.{refl}
use borrow.Author.Tests.{lt-ltb, le-ltb}
use Rattle.bank_stock.specs.Cursor.{next_of}
use Rattle.bank_stock.proofs.Walk.{next-at, within-constant, within-variable, within_pair, within_difference}
use native.Mathlib.Omega.{arith}
use Rattle.bank_stock.proofs.inner.next.Goals as goal

pub overflow_add-k : goal.overflow_add-k
overflow_add-k c = omega (arith, within-constant c.args.nv c.in-Constant.is c.requires.within)

pub next_variable-requires : goal.next_variable-requires
next_variable-requires c =
    let v = within-variable c.args.nv c.in-Variable.is c.requires.within in
    (omega (arith, v.variable, c.requires.most), v.form)

pub next_pair-requires : goal.next_pair-requires
next_pair-requires c =
    let v = within_pair c.args.nv c.in-Pair.is c.requires.within in
    (omega (arith, v.order, v.variable, c.requires.most), (omega (arith, v.variable, c.requires.most), v.gate))

pub overflow_add-j : goal.overflow_add-j
overflow_add-j c =
    let v = within_difference c.args.nv c.in-Difference.is c.requires.within in
    omega (arith, v.right, c.requires.most)

pub difference_from-requires : goal.difference_from-requires
difference_from-requires c =
    let v = within_difference c.args.nv c.in-Difference.is c.requires.within in
    (omega (arith, v.left, c.requires.most), omega (arith, v.right, c.requires.most))

pub returns-then-k-lt-CONSTANTS : goal.returns-then-k-lt-CONSTANTS
unfolding next_of
returns-then-k-lt-CONSTANTS c = next-at c.args.nv _ c.in-Constant.is (rw (lt-ltb _ _ c.if-k-lt-CONSTANTS.true))

pub returns-else-k-lt-CONSTANTS : goal.returns-else-k-lt-CONSTANTS
unfolding next_of
returns-else-k-lt-CONSTANTS c = next-at c.args.nv _ c.in-Constant.is (rw (le-ltb _ _ c.if-k-lt-CONSTANTS.false))

pub returns-in-Variable : goal.returns-in-Variable
returns-in-Variable c = next-at c.args.nv _ c.in-Variable.is c.next_variable.ensures

pub returns-in-Pair : goal.returns-in-Pair
returns-in-Pair c = next-at c.args.nv _ c.in-Pair.is c.next_pair.ensures

pub returns-in-Difference : goal.returns-in-Difference
unfolding next_of
returns-in-Difference c = next-at c.args.nv _ c.in-Difference.is c.difference_from.ensures

pub returns-in-Done : goal.returns-in-Done
unfolding next_of
returns-in-Done c = next-at c.args.nv _ c.in-Done.is refl
