-- Laws of the test whether a word of some point reaches 2 ^ w, point after point. Assumes nothing.
use mathlib.Core.Path.{◌≡◌, sym, ap, ◌∙◌}
use mathlib.Core.Bool.{Bool, true, false, ◌||◌}
use mathlib.Core.List.{List}
use Prim.Native.Nat.{ℕ, suc, ◌+◌, ◌≤◌, ◌<◌}
use native.Mathlib.Numerals.{add-one}
use lib.ListN.{length, get_or, take, drop, drop_of_length-le}
use lib.Seq.{drop-cons}
use Rattle.probe_points.specs.declared.Point.{Point}
use Rattle.row_lent.specs.Range.{reaches}
use Rattle.bank.specs.Build.{points_reach}

-- what the point at place k tells of those from there on: one of its words reaches, or it depends on the later points
module _ (m nv : ℕ) (points : List Point) (k : ℕ) (d : Point) (h : k < length points) where
  pub points_here : reaches m (take nv (get_or points k d).words) ≡ true → points_reach m nv (drop k points) ≡ true
  unfolding points_reach
  points_here e = ap (points_reach m nv) (drop-cons points k d h) ∙ ap (λ (b : Bool). b || points_reach m nv (drop (suc k) points)) e

  pub points_later : reaches m (take nv (get_or points k d).words) ≡ false → points_reach m nv (drop k points) ≡ points_reach m nv (drop (k + 1) points)
  unfolding points_reach
  points_later e =
      ap (points_reach m nv) (drop-cons points k d h)
      ∙ ap (λ (b : Bool). b || points_reach m nv (drop (suc k) points)) e
      ∙ ap (λ (n : ℕ). points_reach m nv (drop n points)) (sym (add-one k))

-- past the last point there is none
pub points_none : (m nv : ℕ) (points : List Point) (k : ℕ) → length points ≤ k → points_reach m nv (drop k points) ≡ false
unfolding points_reach
points_none m nv points k h = ap (points_reach m nv) (drop_of_length-le points h)
