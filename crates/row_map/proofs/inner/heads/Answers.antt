-- `row_map::inner::heads` meets its contract: the shift loses nothing. Assumes nothing.
use native.Mathlib.Omega.{arith}
use Rattle.arith.proofs.Remainders.{shl_one}
use Rattle.row_map.proofs.inner.heads.Goals as goal

pub returns : goal.returns
returns c = shl_one 64 (omega arith)
