-- splitmix64 and the sixteen points. "Points" is 01's term: sixteen inputs at which every formula is evaluated. Assumes nothing.
use Rattle.std.specs.Prelude.{◌≡◌, ℕ, zero, suc, ◌+◌, ◌-◌, ◌*◌, ◌/◌, ◌%◌, ◌^◌, List, [], ◌∷◌, ◌++◌, replicate, bit_xor}
use Rattle.limits.specs.Refusal.{refuse, unless_refused, bad_count, bad_width}
use Rattle.probe_points.specs.declared.Draw.{Draw}
use Rattle.probe_points.specs.declared.Point.{Point}
use Rattle.probe_points.specs.declared.Points.{Points}
use Rattle.probe_points.specs.declared.DrawnPoint.{DrawnPoint}

-- splitmix64 as published: a constant is added to the state, and the word is the new state, mixed by xors with its own shifts and by products
unfoldable pub next_state : ℕ → ℕ
next_state s = (s + 0x9E3779B97F4A7C15) % 2 ^ 64

unfoldable pub word_of : ℕ → ℕ
word_of s =
    let a : ℕ = bit_xor s (s / 2 ^ 30) * 0xBF58476D1CE4E5B9 % 2 ^ 64 in
    let b : ℕ = bit_xor a (a / 2 ^ 27) * 0x94D049BB133111EB % 2 ^ 64 in
    bit_xor b (b / 2 ^ 31)

abbrev pub drawn : ℕ → Draw
drawn s = record { state = next_state s; word = word_of (next_state s) }

-- the state after n draws
unfoldable pub state_after : ℕ → ℕ → ℕ
unfolding next_state
state_after zero s = s
state_after (suc n) s = state_after n (next_state s)

-- 01, Points: each word reduced
unfoldable pub words_from : ℕ → ℕ → ℕ → List ℕ
unfolding next_state word_of
words_from w zero s = []
words_from w (suc n) s = (word_of (next_state s) % 2 ^ w) ∷ words_from w n (next_state s)

-- 01, Points: each an array of at most six words, places past the variable count 0
unfoldable pub point_from : ℕ → ℕ → ℕ → Point
unfolding words_from
point_from nv w s = record { words = words_from w nv s ++ replicate (6 - nv) 0 }

-- 01, Points: point after point
unfoldable pub points_from : ℕ → ℕ → ℕ → ℕ → List Point
unfolding point_from state_after
points_from nv w zero s = []
points_from nv w (suc k) s = point_from nv w s ∷ points_from nv w k (state_after nv s)

-- 01, Points: the sixteen points, splitmix64 from state 0xC0B4A
unfoldable pub probe_points : ℕ → ℕ → List Point
unfolding points_from
probe_points nv w = points_from nv w 16 0xC0B4A

-- 01, evaluator.rs, Refusals: for the points 1, 2
abbrev pub points_refusal : ℕ → ℕ → ℕ
points_refusal nv w = refuse (bad_count nv) 1 (refuse (bad_width w) 2 0)

-- 01, Turned back: an array that a call hands back by value holds only zeros when turned back
abbrev pub zero_points : List Point
zero_points = replicate 16 (record { words = replicate 6 0 })

-- what `make_probe_points` answers
abbrev pub points_or : ℕ → List Point → Points
points_or number points = record { refusal = number; points = unless_refused number points zero_points }

abbrev pub made_points : ℕ → ℕ → Points
made_points nv w = points_or (points_refusal nv w) (probe_points nv w)

-- a point and the state after it
pub record DrawsPoint (nv w s : ℕ) (r : DrawnPoint) : Type 0 where
  pub state : r.state ≡ state_after nv s
  pub point : r.point ≡ point_from nv w s
