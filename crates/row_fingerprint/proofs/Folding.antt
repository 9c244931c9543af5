-- Laws of the fingerprint's fold: what is left from a place on. Assumes nothing.
use mathlib.Core.Path.{◌≡◌, sym, ap, ◌∙◌}
use mathlib.Core.List.{List}
use Prim.Native.Nat.{ℕ, ◌+◌, ◌≤◌, ◌<◌}
use native.Mathlib.Numerals.{add-one}
use lib.ListN.{length, drop, get_or, drop_of_length-le}
use lib.Seq.{drop-cons}
use Rattle.row_fingerprint.specs.Fingerprint.{mix_word, mixed}

pub mixed-step : (h : ℕ) (row : List ℕ) (i : ℕ) → i < length row → mixed h (drop i row) ≡ mixed (mix_word h (get_or row i 0)) (drop (i + 1) row)
unfolding mixed
mixed-step h row i lt =
    ap (λ (l : List ℕ). mixed h l) (drop-cons row i 0 lt)
    ∙ ap (λ (n : ℕ). mixed (mix_word h (get_or row i 0)) (drop n row)) (sym (add-one i))

pub mixed_end : (h : ℕ) (row : List ℕ) (i : ℕ) → length row ≤ i → mixed h (drop i row) ≡ h
unfolding mixed
mixed_end h row i le = ap (λ (l : List ℕ). mixed h l) (drop_of_length-le row le)
