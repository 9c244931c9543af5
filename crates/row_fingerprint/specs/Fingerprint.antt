-- The fingerprint of a row, as template_decomposer.rs has it. Assumes nothing.
use Rattle.std.specs.Prelude.{List, [], ◌∷◌, ℕ, ◌*◌, ◌/◌, ◌%◌, ◌^◌}
use Rattle.std.specs.Int.Bits.{bit_xor}

-- 01, `fingerprint` is kept, products wrapping modulo 2^64: one word folded in
unfoldable pub mix_word : ℕ → ℕ → ℕ
mix_word h v =
    let x : ℕ = bit_xor h v * 0x100000001b3 % 2 ^ 64 in
    bit_xor x (x / 2 ^ 29)

-- the words from first to last
unfoldable pub mixed : ℕ → List ℕ → ℕ
unfolding mix_word
mixed h [] = h
mixed h (v ∷ row) = mixed (mix_word h v) row

-- the final mixing
unfoldable pub finished : ℕ → ℕ
finished h =
    let x : ℕ = bit_xor h (h / 2 ^ 32) * 0xff51afd7ed558ccd % 2 ^ 64 in
    bit_xor x (x / 2 ^ 32)

-- 01, `fingerprint` is kept: from its first value over all words to the final mixing
unfoldable pub fingerprint_of : List ℕ → ℕ
unfolding mixed finished
fingerprint_of row = finished (mixed 0xcbf29ce484222325 row)
