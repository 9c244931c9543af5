-- Laws of the numbers of a text: the points and the target, word by word. Assumes nothing.
use mathlib.Core.Path.{◌≡◌, refl, sym, ap, ap₂, ◌∙◌}
use mathlib.Core.List.{List, [], ◌∷◌, ◌++◌, map, map-append}
use Prim.Native.Nat.{ℕ, ◌+◌, ◌-◌, ◌*◌, ◌<◌}
use native.Mathlib.Nat.{mul-suc}
use native.Mathlib.Numerals.{add-one}
use native.Mathlib.Omega.{arith}
use lib.ListN.{length, get_or, set, take, drop, length-drop}
use lib.Seq.{take_all, take-suc, take-suc-set, length-take-le, get_or-drop}
use Rattle.arrays.specs.Lists.{count_up}
use Rattle.arrays.proofs.Lists.{count_add}
use Rattle.probe_points.specs.declared.Point.{Point}
use Rattle.bank_spec.specs.Encoding.{pad_to}
use Rattle.bank_spec.proofs.Encodings.{pad_more}
use Rattle.listing.specs.Listing.{count_of, point_of, points_of, target_of}
use Rattle.listing.specs.Steps.{point_from}

-- ---- a point
-- one word more
pub point-more : (numbers words : List ℕ) (base i v : ℕ) → i < 6 → base + i < length numbers → v ≡ get_or numbers (base + i) 0
    → words ≡ pad_to 6 0 (take i (drop base numbers)) → set words i v ≡ pad_to 6 0 (take (i + 1) (drop base numbers))
point-more numbers words base i v h l e f =
    let rest = drop base numbers in
    let long : i < length rest = omega (arith, length-drop base numbers) in
    let front : length (take i rest) ≡ i = length-take-le i rest (omega arith) in
    ap₂ (λ (ws : List ℕ) (x : ℕ). set ws i x) f (e ∙ sym (get_or-drop base numbers i 0))
    ∙ ap (λ (n : ℕ). set (pad_to 6 0 (take i rest)) n (get_or rest i 0)) (sym front)
    ∙ sym (pad_more 6 0 (take i rest) (get_or rest i 0) (omega arith))
    ∙ ap (pad_to 6 0) (sym (take-suc rest i 0 long))
    ∙ ap (λ (n : ℕ). pad_to 6 0 (take n rest)) (sym (add-one i))

-- ---- the points
-- one number more
count-more : (k : ℕ) → count_up 0 (k + 1) ≡ count_up 0 k ++ (k ∷ [])
unfolding count_up
count-more k = count_add 0 k 1 ∙ ap (λ (n : ℕ). count_up 0 k ++ (n ∷ [])) (omega arith)

-- one point more
pub points-more : (numbers : List ℕ) (nv base k : ℕ) (points : List Point) (p : Point) → k < length points → nv ≡ count_of numbers → base ≡ 3 + nv * k
    → p ≡ point_from numbers base nv → take k points ≡ map (point_of numbers) (count_up 0 k)
    → take (k + 1) (set points k p) ≡ map (point_of numbers) (count_up 0 (k + 1))
unfolding point_of
points-more numbers nv base k points p h n b e f =
    ap (λ (m : ℕ). take m (set points k p)) (add-one k)
    ∙ take-suc-set points k p h
    ∙ ap₂ (λ (l : List Point) (q : Point). l ++ (q ∷ [])) f (e ∙ ap₂ (point_from numbers) b n ∙ ap (λ (m : ℕ). point_from numbers (3 + m * k) (count_of numbers)) n)
    ∙ sym (ap (map (point_of numbers)) (count-more k) ∙ map-append (point_of numbers) (count_up 0 k) (k ∷ []))

-- where the next one begins
pub base_more : (nv base k : ℕ) → base ≡ 3 + nv * k → base + nv ≡ 3 + nv * (k + 1)
base_more nv base k b = let e : nv * (k + 1) ≡ nv * k + nv = ap (λ (m : ℕ). nv * m) (add-one k) ∙ mul-suc nv k in omega (arith, b, e)

-- none yet
pub none_stored : (numbers : List ℕ) → [] ≡ map (point_of numbers) (count_up 0 0)
unfolding count_up
none_stored numbers = refl

-- all of them
pub points-are : (numbers : List ℕ) (points : List Point) (k : ℕ) → k ≡ 16 → length points ≡ 16 → take k points ≡ map (point_of numbers) (count_up 0 k) → points ≡ points_of numbers
unfolding points_of
points-are numbers points k h long e = sym (take_all k points (omega arith)) ∙ e ∙ ap (λ (n : ℕ). map (point_of numbers) (count_up 0 n)) h

-- ---- the target
-- the loan of its sixteen words holds it
pub target_part : (numbers : List ℕ) (nv : ℕ) → nv ≡ count_of numbers → take (3 + 16 * nv + 16 - (3 + 16 * nv)) (drop (3 + 16 * nv) numbers) ≡ target_of numbers
unfolding target_of
target_part numbers nv e =
    let d : 3 + 16 * nv + 16 - (3 + 16 * nv) ≡ 16 = omega arith in
    ap (λ (m : ℕ). take m (drop (3 + 16 * nv) numbers)) d ∙ ap (λ (n : ℕ). take 16 (drop (3 + 16 * n) numbers)) e
