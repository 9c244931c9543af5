-- `text_print::inner::formulas::gate_sign` meets its contract, gate by gate. Assumes nothing.
use Rattle.text_print.specs.Printing.{sign_of}
use Rattle.text_print.proofs.inner.formulas.gate_sign.Goals as goal

pub returns-in-And : goal.returns-in-And
unfolding sign_of
returns-in-And c = rw c.in-And.is

pub returns-in-Or : goal.returns-in-Or
unfolding sign_of
returns-in-Or c = rw c.in-Or.is

pub returns-in-Xor : goal.returns-in-Xor
unfolding sign_of
returns-in-Xor c = rw c.in-Xor.is

pub returns-in-Add : goal.returns-in-Add
unfolding sign_of
returns-in-Add c = rw c.in-Add.is

pub returns-in-Mul : goal.returns-in-Mul
unfolding sign_of
returns-in-Mul c = rw c.in-Mul.is
