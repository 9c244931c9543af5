-- Rows, points and gates as callers through the C interface give them, and what is refused before a call. Assumes nothing.
use Rattle.std.specs.Prelude.{Bool, ◌||◌, List, [], ◌∷◌, ℕ, zero, suc, ◌+◌, ltb, length}
use Rattle.limits.specs.Refusal.{refuse, bad_count, bad_width}
use Rattle.arrays.specs.Parts.{part_at}
use Rattle.probe_points.specs.declared.Point.{Point}

-- ---- rows that come as slices
-- 01, cobra-simd lib.rs: rows hold 16 u64. The first sixteen of a slice count
abbrev pub row_in : List ℕ → List ℕ
row_in words = part_at 16 words 0

-- 01, Turned back, 4: a lent array shorter than stated
abbrev pub short_row : List ℕ → Bool
short_row words = ltb (length words) 16

-- 01, Turned back: of a call with a width and a row as a slice, 2 and 4 before the call's own
abbrev pub row_refusal : ℕ → List ℕ → ℕ
row_refusal w row = refuse (bad_width w) 2 (refuse (short_row row) 4 0)

-- ---- points that come as a slice
-- 01, Points: each an array of at most six words
abbrev pub point_in : List ℕ → ℕ → Point
point_in words k = record { words = part_at 6 words k }

-- n points from point k on
unfoldable pub points_from : List ℕ → ℕ → ℕ → List Point
unfolding part_at
points_from words k zero = []
points_from words k (suc n) = point_in words k ∷ points_from words (k + 1) n

-- 01, Points: sixteen. The first ninety-six words of a slice count
abbrev pub points_in : List ℕ → List Point
points_in words = points_from words 0 16

-- 01, Turned back, 4: a lent array shorter than stated
abbrev pub short_points : List ℕ → Bool
short_points words = ltb (length words) 96

-- 01, Turned back: of a call with a variable count, a width and points as a slice, 1, 2 and 4 before the call's own
abbrev pub points_refusal : ℕ → ℕ → List ℕ → ℕ
points_refusal nv w points = refuse (bad_count nv) 1 (refuse (bad_width w) 2 (refuse (short_points points) 4 0))

-- the same with a row
abbrev pub points_row_refusal : ℕ → ℕ → List ℕ → List ℕ → ℕ
points_row_refusal nv w points row = refuse (bad_count nv) 1 (refuse (bad_width w) 2 (refuse (short_points points || short_row row) 4 0))

-- ---- gates by their numbers
-- 01, Turned back, 4: of two rows as slices, and of three
abbrev pub two_short : List ℕ → List ℕ → Bool
two_short a b = short_row a || short_row b

abbrev pub three_short : List ℕ → List ℕ → List ℕ → Bool
three_short a b c = two_short a b || short_row c

-- 01, Turned back: of a gate on rows as slices, 2 and 4 before the call's own; 6, unknown opcode, for a number that is no gate's
abbrev pub gate_refusal : ℕ → Bool → ℕ → ℕ
gate_refusal w short g = refuse (bad_width w) 2 (refuse short 4 (refuse (ltb 4 g) 6 0))
