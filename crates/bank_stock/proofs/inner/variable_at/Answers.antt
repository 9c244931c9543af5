-- `bank_stock::inner::variable_at` meets its contract, form by form. Assumes nothing.
use mathlib.Core.List.{[], ◌∷◌}
use Rattle.expr.specs.declared.Token.TheVariants.{Variable}
use Rattle.expr.proofs.Formulas.{variable-passes}
use Rattle.bank_atom.proofs.Making.{extends}
use Rattle.bank_stock.proofs.Forms.{entry-form, variable_0, variable_1, variable_2}
use native.Mathlib.Omega.{arith}
use Rattle.bank_stock.proofs.inner.variable_at.Goals as goal

pub returns-then-k-eq0 : goal.returns-then-k-eq0
returns-then-k-eq0 c = let s = c.args in entry-form s.w s.points c.variable-v.ensures (variable_0 s.i s.k c.if-k-eq0.true)

pub under_unary-requires : goal.under_unary-requires
under_unary-requires c =
    extends c.args.w 6 c.args.points c.requires.0 (Variable c.args.i ∷ []) (variable-passes 6 c.args.i c.requires.1) (omega arith) c.variable-v.ensures

pub returns-then-k-eq1 : goal.returns-then-k-eq1
returns-then-k-eq1 c =
    entry-form c.args.w c.args.points
    (c.under_unary.ensures.is 6 c.args.points (Variable c.args.i ∷ []) (variable-passes 6 c.args.i c.requires.1) c.variable-v.ensures)
    (variable_1 c.args.i c.args.k c.if-k-eq1.true)

pub under_unary-requires-2 : goal.under_unary-requires-2
under_unary-requires-2 c =
    extends c.args.w 6 c.args.points c.requires.0 (Variable c.args.i ∷ []) (variable-passes 6 c.args.i c.requires.1) (omega arith) c.variable-v.ensures

pub returns : goal.returns
returns c =
    entry-form c.args.w c.args.points
    (c.under_unary-2.ensures.is 6 c.args.points (Variable c.args.i ∷ []) (variable-passes 6 c.args.i c.requires.1) c.variable-v.ensures)
    (variable_2 c.args.i c.args.k c.if-k-eq0.false c.if-k-eq1.false)
