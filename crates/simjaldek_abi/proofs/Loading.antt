-- Laws of points that come as a slice. Assumes nothing.
use mathlib.Core.Path.{◌≡◌, sym, ap, ◌∙◌}
use mathlib.Core.List.{List, ◌∷◌, ◌++◌, map}
use Prim.Native.Nat.{ℕ, suc, ◌+◌, ◌-◌, ◌<◌}
use native.Mathlib.Numerals.{add-one}
use native.Mathlib.Omega.{arith}
use lib.ListN.{length, get_or, set, take, drop}
use lib.Seq.{append_snoc, drop-cons, take-suc-set}
use Rattle.probe_points.specs.declared.Point.{Point}
use Rattle.simjaldek_abi.specs.declared.PointWords.{PointWords}
use Rattle.simjaldek_abi.specs.Slices.{point_in, points_from}
use Rattle.simjaldek_abi.specs.Reply.{point_words}

-- one point more: those loaded and those still to come stay the same list
pub point-more : (words : List ℕ) (k : ℕ) (points : List Point) (p : Point) → k < 16 → length points ≡ 16 → p ≡ point_in words k
    → take (k + 1) (set points k p) ++ points_from words (k + 1) (16 - (k + 1)) ≡ take k points ++ points_from words k (16 - k)
unfolding points_from
point-more words k points p h l e =
    let rest : List Point = points_from words (k + 1) (16 - (k + 1)) in
    let n : 16 - k ≡ suc (16 - (k + 1)) = omega arith in
    ap (λ (x : List Point). x ++ rest) (ap (λ (j : ℕ). take j (set points k p)) (add-one k) ∙ take-suc-set points k p (omega arith))
    ∙ append_snoc (take k points) p rest
    ∙ ap (λ (x : Point). take k points ++ (x ∷ rest)) e
    ∙ ap (λ (j : ℕ). take k points ++ points_from words k j) (sym n)

-- the same of points that are handed back
pub words_more : (made : List Point) (k : ℕ) (points : List PointWords) (q : PointWords) (d : Point) → k < 16 → length points ≡ 16 → length made ≡ 16 → q ≡ point_words (get_or made k d)
    → take (k + 1) (set points k q) ++ map point_words (drop (k + 1) made) ≡ take k points ++ map point_words (drop k made)
words_more made k points q d h l m e =
    let rest : List PointWords = map point_words (drop (k + 1) made) in
    ap (λ (x : List PointWords). x ++ rest) (ap (λ (j : ℕ). take j (set points k q)) (add-one k) ∙ take-suc-set points k q (omega arith))
    ∙ append_snoc (take k points) q rest
    ∙ ap (λ (x : PointWords). take k points ++ (x ∷ rest)) e
    ∙ ap (λ (j : ℕ). take k points ++ (point_words (get_or made k d) ∷ map point_words (drop j made))) (add-one k)
    ∙ ap (λ (x : List Point). take k points ++ map point_words x) (sym (drop-cons made k d (omega arith)))
