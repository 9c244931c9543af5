-- Laws of the sum that tells a row's chain: two words more. Assumes nothing.
use Rattle.std.proofs.Common.{◌≡◌, ℕ, suc, ◌+◌, ◌*◌, ◌%◌, ◌^◌, ◌<◌, ◌≤◌, List, ◌∷◌, length, get_or, drop, ap, ◌∙◌, arith, drop_of_length-le, drop-cons}
use lib.Bits.{bit_xor}
use Rattle.search_residual_map.specs.Map.{mixer, swapped_of, mixed_from}

-- two words, and what follows
drop-two : (row : List ℕ) (k : ℕ) → k + 1 < length row → drop k row ≡ get_or row k 0 ∷ (get_or row (k + 1) 0 ∷ drop (k + 2) row)
drop-two row k h =
    let one : suc k ≡ k + 1 = omega arith in
    let two : suc (k + 1) ≡ k + 2 = omega arith in
    drop-cons row k 0 (omega arith)
    ∙ ap (λ (i : ℕ). get_or row k 0 ∷ drop i row) one
    ∙ ap (λ (l : List ℕ). get_or row k 0 ∷ l) (drop-cons row (k + 1) 0 h ∙ ap (λ (i : ℕ). get_or row (k + 1) 0 ∷ drop i row) two)

pub mixed-step : (sum power : ℕ) (row : List ℕ) (i : ℕ) → 2 * i + 1 < length row
    → mixed_from sum power (drop (2 * i) row)
    ≡ mixed_from ((sum + bit_xor (get_or row (2 * i) 0) (swapped_of (get_or row (2 * i + 1) 0)) * power % 2 ^ 64) % 2 ^ 64) (power * mixer % 2 ^ 64) (drop (2 * (i + 1)) row)
unfolding mixed_from
mixed-step sum power row i h =
    let next : 2 * i + 2 ≡ 2 * (i + 1) = omega arith in
    ap (mixed_from sum power) (drop-two row (2 * i) h)
    ∙ ap (λ (n : ℕ). mixed_from ((sum + bit_xor (get_or row (2 * i) 0) (swapped_of (get_or row (2 * i + 1) 0)) * power % 2 ^ 64) % 2 ^ 64) (power * mixer % 2 ^ 64) (drop n row)) next

pub mixed_end : (sum power : ℕ) (row : List ℕ) (i : ℕ) → length row ≤ 2 * i → mixed_from sum power (drop (2 * i) row) ≡ sum
unfolding mixed_from
mixed_end sum power row i h = ap (mixed_from sum power) (drop_of_length-le row h)
