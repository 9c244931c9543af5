-- `text_print::inner::formulas::sign_of` meets its contract, token by token. Assumes nothing.
use Rattle.text_print.specs.Printing.{sign_of}
use Rattle.text_print.proofs.inner.formulas.sign_of.Goals as goal

pub returns-in-Constant : goal.returns-in-Constant
unfolding sign_of
returns-in-Constant c = rw c.in-Constant.is

pub returns-in-Variable : goal.returns-in-Variable
unfolding sign_of
returns-in-Variable c = rw c.in-Variable.is

pub returns-in-Binary : goal.returns-in-Binary
returns-in-Binary c = rw c.in-Binary.is c.gate_sign.ensures

pub returns-in-Not : goal.returns-in-Not
unfolding sign_of
returns-in-Not c = rw c.in-Not.is

pub returns-in-Neg : goal.returns-in-Neg
unfolding sign_of
returns-in-Neg c = rw c.in-Neg.is

pub returns-in-Bad : goal.returns-in-Bad
unfolding sign_of
returns-in-Bad c = rw c.in-Bad.is
