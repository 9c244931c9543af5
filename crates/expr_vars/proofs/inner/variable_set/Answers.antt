-- `expr_vars::inner::variable_set` meets its contract: the shift loses nothing. Assumes nothing.
use native.Mathlib.Omega.{arith}
use Rattle.arith.proofs.Remainders.{shl_one}
use Rattle.expr_vars.proofs.inner.variable_set.Goals as goal

pub returns : goal.returns
returns c = shl_one 8 (omega arith)
