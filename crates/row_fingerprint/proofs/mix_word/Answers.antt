-- `row_fingerprint::mix_word` meets its contract: a product that wraps, and a shift. Assumes nothing.
use mathlib.Core.Path.{ap}
use Prim.Native.Nat.{ℕ, ◌/◌, ◌^◌}
use lib.Bits.{bit_xor}
use Rattle.row_fingerprint.specs.Fingerprint.{mix_word}
use Rattle.row_fingerprint.proofs.mix_word.Goals as goal

pub returns : goal.returns
unfolding mix_word
returns c = ap (λ (x : ℕ). bit_xor x (x / 2 ^ 29)) c.wrapping_mul-x.ensures
