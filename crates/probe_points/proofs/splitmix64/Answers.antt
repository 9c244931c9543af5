-- `probe_points::splitmix64` meets its contract, step by step as published. Assumes nothing.
use Rattle.std.proofs.Common.{◌≡◌, ℕ, ◌*◌, ◌/◌, ◌%◌, ◌^◌, ap, ◌∙◌}
use lib.Bits.{bit_xor}
use Rattle.probe_points.specs.Points.{next_state, word_of}
use Rattle.probe_points.proofs.splitmix64.Goals as goal

pub returns : goal.returns
unfolding next_state word_of
returns c =
    let n : c.wrapping_add_u64-next.result ≡ next_state c.args.state = c.wrapping_add_u64-next.ensures.value in
    let a = c.wrapping_mul-a.ensures ∙ ap (λ (s : ℕ). bit_xor s (s / 2 ^ 30) * 0xBF58476D1CE4E5B9 % 2 ^ 64) n in
    let b = c.wrapping_mul-b.ensures ∙ ap (λ (x : ℕ). bit_xor x (x / 2 ^ 27) * 0x94D049BB133111EB % 2 ^ 64) a in
    λ i. record { state = n i; word = ap (λ (x : ℕ). bit_xor x (x / 2 ^ 31)) b i }
