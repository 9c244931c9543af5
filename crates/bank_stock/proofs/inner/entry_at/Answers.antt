-- `bank_stock::inner::entry_at` meets its contract, place by place. Assumes nothing.
use mathlib.Core.Path.{sym, ap, ◌∙◌}
use Rattle.bank_stock.specs.Cursor.{form_of}
use Rattle.bank_stock.proofs.Forms.{entry-form, gates_at, pair-form}
use Rattle.bank_stock.proofs.Walk.{within-variable, within_pair, within_difference}
use native.Mathlib.Omega.{arith}
use borrow.Author.Rules.{rules}
use Rattle.bank_stock.proofs.inner.entry_at.Goals as goal

pub variable_at-requires : goal.variable_at-requires
variable_at-requires c =
    let v = within-variable c.args.nv c.in-Variable.is c.requires.1.within in
    (c.requires.0, omega (arith, v.variable, c.requires.1.most))

pub pair_at-requires : goal.pair_at-requires
pair_at-requires c =
    let v = within_pair c.args.nv c.in-Pair.is c.requires.1.within in
    (c.requires.0, (omega (arith, v.order, v.variable, c.requires.1.most), omega (arith, v.variable, c.requires.1.most)))

pub difference_at-requires : goal.difference_at-requires
difference_at-requires c =
    let v = within_difference c.args.nv c.in-Difference.is c.requires.1.within in
    (c.requires.0, (omega (arith, v.left, c.requires.1.most), omega (arith, v.right, c.requires.1.most)))

pub returns-in-Constant : goal.returns-in-Constant
unfolding form_of
returns-in-Constant c =
    let s = c.args in
    entry-form s.w s.points (c.constant_at.ensures.is s.points (search rules)) (ap (form_of s.w) (sym c.in-Constant.is))

pub returns-in-Variable : goal.returns-in-Variable
unfolding form_of
returns-in-Variable c =
    let s = c.args in
    entry-form s.w s.points c.variable_at.ensures (ap (form_of s.w) (sym c.in-Variable.is))

pub returns-in-Pair : goal.returns-in-Pair
unfolding form_of
returns-in-Pair c =
    let s = c.args in
    let v = within_pair c.args.nv c.in-Pair.is c.requires.1.within in
    entry-form s.w s.points c.pair_at.ensures (pair-form _ _ c.in-Pair.k _ (gates_at c.in-Pair.k _ v.gate) ∙ ap (form_of s.w) (sym c.in-Pair.is))

pub returns-in-Difference : goal.returns-in-Difference
unfolding form_of
returns-in-Difference c =
    let s = c.args in
    entry-form s.w s.points c.difference_at.ensures (ap (form_of s.w) (sym c.in-Difference.is))

pub returns-in-Done : goal.returns-in-Done
unfolding form_of
returns-in-Done c =
    let s = c.args in
    entry-form s.w s.points (c.constant.ensures.is s.points (search rules)) (ap (form_of s.w) (sym c.in-Done.is))
