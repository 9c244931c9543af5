-- `row_fingerprint::finish` meets its contract: a product that wraps, and a shift. Assumes nothing.
use mathlib.Core.Path.{ap}
use Prim.Native.Nat.{ℕ, ◌/◌, ◌^◌}
use lib.Bits.{bit_xor}
use Rattle.row_fingerprint.specs.Fingerprint.{finished}
use Rattle.row_fingerprint.proofs.finish.Goals as goal

pub returns : goal.returns
unfolding finished
returns c = ap (λ (x : ℕ). bit_xor x (x / 2 ^ 32)) c.wrapping_mul-x.ensures
