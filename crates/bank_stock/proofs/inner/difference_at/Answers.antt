-- `bank_stock::inner::difference_at` meets its contract: a variable, and another under Neg, under Add. Assumes nothing.
use mathlib.Core.List.{[], ◌∷◌}
use Rattle.expr.specs.declared.Token.TheVariants.{Variable, Neg}
use Rattle.expr.proofs.Formulas.{variable-passes}
use Rattle.bank_atom.proofs.Making.{extends, joins}
use Rattle.bank_stock.proofs.Forms.{variable_varies, minus_passes, minus_varies}
use native.Mathlib.Omega.{arith}
use Rattle.bank_stock.proofs.inner.difference_at.Goals as goal

pub under_unary-minus-requires : goal.under_unary-minus-requires
under_unary-minus-requires c =
    extends c.args.w 6 c.args.points c.requires.0 (Variable c.args.j ∷ []) (variable-passes 6 c.args.j c.requires.1.1) (omega arith) c.variable-b.ensures

pub under_gate-requires : goal.under_gate-requires
under_gate-requires c =
    joins c.args.w 6 c.args.points c.requires.0 (Variable c.args.i ∷ []) (Variable c.args.j ∷ (Neg ∷ []))
    (variable-passes 6 c.args.i c.requires.1.0) (minus_passes c.args.j c.requires.1.1) (omega arith) c.variable-a.ensures
    (c.under_unary-minus.ensures.is 6 c.args.points (Variable c.args.j ∷ []) (variable-passes 6 c.args.j c.requires.1.1) c.variable-b.ensures)

pub returns : goal.returns
returns c =
    c.under_gate.ensures.is 6 c.args.points (Variable c.args.i ∷ []) (Variable c.args.j ∷ (Neg ∷ []))
    (variable-passes 6 c.args.i c.requires.1.0) (minus_passes c.args.j c.requires.1.1) (variable_varies c.args.i) (minus_varies c.args.j c.requires.1.1)
    c.variable-a.ensures
    (c.under_unary-minus.ensures.is 6 c.args.points (Variable c.args.j ∷ []) (variable-passes 6 c.args.j c.requires.1.1) c.variable-b.ensures)
