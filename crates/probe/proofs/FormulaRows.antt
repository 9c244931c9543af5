-- Laws of a formula's row, place by place. Assumes nothing.
use mathlib.Core.Path.{◌≡◌, refl}
use mathlib.Core.List.{List, [], ◌∷◌}
use Prim.Native.Nat.{ℕ, zero, suc, ◌<◌}
use native.Mathlib.Omega.{arith}
use lib.ListN.{length, get_or, length-map}
use Rattle.expr.specs.declared.Token.{Token}
use Rattle.expr_eval.specs.Value.{value_of}
use Rattle.probe_points.specs.declared.Point.{Point}
use Rattle.probe.specs.FormulaRow.{row_of}

pub length-row_of : (w : ℕ) (points : List Point) (ts : List Token) → length (row_of w points ts) ≡ length points
unfolding row_of
length-row_of w points ts = length-map points (λ (p : Point). value_of w p.words ts)

pub get_or-row_of : (w : ℕ) (points : List Point) (ts : List Token) (d : Point) (k : ℕ) → k < length points → get_or (row_of w points ts) k 0 ≡ value_of w (get_or points k d).words ts
unfolding row_of
get_or-row_of w [] ts d k h = absurd (omega arith)
get_or-row_of w (p ∷ points) ts d zero h = refl
get_or-row_of w (p ∷ points) ts d (suc k) h = get_or-row_of w points ts d k (omega arith)
