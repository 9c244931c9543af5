-- `bank_stock::inner::pair_at` meets its contract: the gate of two variables. Assumes nothing.
use mathlib.Core.List.{[], ◌∷◌}
use Rattle.expr.specs.declared.Token.TheVariants.{Variable}
use Rattle.expr.proofs.Formulas.{variable-passes}
use Rattle.bank_atom.proofs.Making.{joins}
use Rattle.bank_stock.proofs.Forms.{variable_varies}
use native.Mathlib.Omega.{arith}
use Rattle.bank_stock.proofs.inner.pair_at.Goals as goal

pub under_gate-requires : goal.under_gate-requires
under_gate-requires c =
    joins c.args.w 6 c.args.points c.requires.0 (Variable c.args.i ∷ []) (Variable c.args.j ∷ [])
    (variable-passes 6 c.args.i c.requires.1.0) (variable-passes 6 c.args.j c.requires.1.1) (omega arith) c.variable-a.ensures c.variable-b.ensures

pub returns : goal.returns
returns c =
    c.under_gate.ensures.is 6 c.args.points (Variable c.args.i ∷ []) (Variable c.args.j ∷ [])
    (variable-passes 6 c.args.i c.requires.1.0) (variable-passes 6 c.args.j c.requires.1.1) (variable_varies c.args.i) (variable_varies c.args.j)
    c.variable-a.ensures c.variable-b.ensures
