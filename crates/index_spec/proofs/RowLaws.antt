-- Laws of the first rows of a lent array, and of the rows of pairs in it. Assumes nothing.
use mathlib.Core.Path.{◌≡◌, refl, sym, ap, ap₂, ◌∙◌}
use mathlib.Core.Logic.{◌⊎◌, inl, inr}
use mathlib.Core.List.{List, [], ◌∷◌, ◌++◌, append_assoc, append-nil}
use Prim.Native.Nat.{ℕ, zero, suc, ◌+◌, ◌*◌, ◌≤◌, ◌<◌}
use native.Mathlib.Nat.{eq-or-lt_of_le, mul-suc}
use native.Mathlib.Numerals.{add-one}
use native.Mathlib.Omega.{arith}
use lib.ListN.{get_or, length, take, drop, length-append, length-drop, get_or-append}
use lib.Seq.{get_or_at, take-add, length-take-le}
use Rattle.arrays.specs.Parts.{part_at, put_part, encode}
use Rattle.arrays.proofs.Parts.{part_put-same, part_put_other, length-part}
use Rattle.row_gates.specs.Gates.{gate_row}
use Rattle.row_gates.specs.declared.Gate.{Gate}
use Rattle.row_gates.proofs.Rows.{length-gate_row}
use Rattle.arrays.specs.Lists.{In}
use Rattle.index_spec.specs.Index.{Pair, rows_of, rows_in, trial_row}
use Rattle.index_spec.specs.Encoding.{pair_row}
use Rattle.arrays.proofs.Lists.{in_left, in_right, in_split}

pub length-rows_of : (n : ℕ) (rows : List ℕ) → length (rows_of n rows) ≡ n
unfolding rows_of
length-rows_of zero rows = refl
length-rows_of (suc n) rows = length-append (rows_of n rows) (part_at 16 rows n ∷ []) ∙ ap (λ (k : ℕ). k + 1) (length-rows_of n rows) ∙ add-one n

pub rows_at : (n : ℕ) (rows : List ℕ) (k : ℕ) → k < n → get_or (rows_of n rows) k [] ≡ part_at 16 rows k
unfolding rows_of
rows_at zero rows k h = absurd (omega arith)
rows_at (suc n) rows k h = elim (eq-or-lt_of_le {n = k} {m = n} (omega arith)) [
  | inl e ↦ get_or_at (rows_of n rows) (part_at 16 rows n) [] [] k (length-rows_of n rows ∙ sym e) ∙ ap (part_at 16 rows) (sym e)
  | inr l ↦ get_or-append (rows_of n rows) (part_at 16 rows n ∷ []) [] k (rw (length-rows_of n rows) l) ∙ rows_at n rows k l
]

pub in_rows : (n : ℕ) (rows : List ℕ) (k : ℕ) → k < n → In (part_at 16 rows k) (rows_of n rows)
unfolding rows_of
in_rows zero rows k h = absurd (omega arith)
in_rows (suc n) rows k h = elim (eq-or-lt_of_le {n = k} {m = n} (omega arith)) [
  | inl e ↦ in_right _ (rows_of n rows) (part_at 16 rows n ∷ []) (inl (ap (part_at 16 rows) e))
  | inr l ↦ in_left _ (rows_of n rows) (part_at 16 rows n ∷ []) (in_rows n rows k l)
]

-- no slot has the row
pub not_in_rows : (n : ℕ) (rows row : List ℕ) → ((t : ℕ) → t < n → part_at 16 rows t ≡ row → ⊥) → In row (rows_of n rows) → ⊥
unfolding rows_of
not_in_rows zero rows row none h = h
not_in_rows (suc n) rows row none h = go (in_split row (rows_of n rows) (part_at 16 rows n ∷ []) h) (not_in_rows n rows row (λ t l. none t (omega arith)))
  where
    go : In row (rows_of n rows) ⊎ In row (part_at 16 rows n ∷ []) → (In row (rows_of n rows) → ⊥) → ⊥
    go (inl i) rest = rest i
    go (inr (inl e)) rest = none n (omega arith) (sym e)
    go (inr (inr x)) rest = x

-- ---- a row put after the last
pub rows_agree : (n : ℕ) (a b : List ℕ) → ((t : ℕ) → t < n → part_at 16 a t ≡ part_at 16 b t) → rows_of n a ≡ rows_of n b
unfolding rows_of
rows_agree zero a b same = refl
rows_agree (suc n) a b same = ap₂ (λ (x : List (List ℕ)) (y : List ℕ). x ++ (y ∷ [])) (rows_agree n a b (λ t l. same t (omega arith))) (same n (omega arith))

pub rows-put : (n : ℕ) (l row : List ℕ) → 16 * n + 16 ≤ length l → length row ≡ 16 → rows_of (n + 1) (put_part 16 l n row) ≡ rows_of n l ++ (row ∷ [])
unfolding rows_of
rows-put n l row fits long =
    ap (λ (k : ℕ). rows_of k (put_part 16 l n row)) (add-one n)
    ∙ ap₂ (λ (x : List (List ℕ)) (y : List ℕ). x ++ (y ∷ []))
    (rows_agree n (put_part 16 l n row) l (λ t h. part_put_other 16 l n row fits long t (inl h)))
    (part_put-same 16 l n row fits long)

-- a row whose part fits has sixteen words
pub put-long : (n : ℕ) (l row : List ℕ) → 16 * n + 16 ≤ length l → length (put_part 16 l n row) ≡ length l → length row ≡ 16
unfolding put_part
put-long n l row fits e =
    omega (
      arith,
      e,
      length-append (take (16 * n) l) (row ++ drop (16 * n + 16) l),
      length-append row (drop (16 * n + 16) l),
      length-take-le (16 * n) l (omega arith),
      length-drop (16 * n + 16) l,
    )

pub gate-long : (g : Gate) (w : ℕ) (rows : List ℕ) (b c : ℕ) → 16 * b + 16 ≤ length rows → 16 * c + 16 ≤ length rows → length (gate_row g w (part_at 16 rows b) (part_at 16 rows c)) ≡ 16
gate-long g w rows b c hb hc =
    let lb = length-part 16 rows b hb in
    let lc = length-part 16 rows c hc in
    length-gate_row g w (part_at 16 rows b) (part_at 16 rows c) (omega arith) ∙ lb

-- ---- the rows joined are the array's first words
abbrev flat : List (List ℕ) → List ℕ
flat rows = encode (λ (r : List ℕ). r) rows

flat_snoc : (rows : List (List ℕ)) (r : List ℕ) → flat (rows ++ (r ∷ [])) ≡ flat rows ++ r
unfolding encode
flat_snoc [] r = append-nil r
flat_snoc (x ∷ rows) r = rw (flat_snoc rows r) (sym (append_assoc x (flat rows) r))

flat_rows : (n : ℕ) (l : List ℕ) → flat (rows_of n l) ≡ take (16 * n) l
unfolding rows_of encode part_at
flat_rows zero l = refl
flat_rows (suc n) l = flat_snoc (rows_of n l) (part_at 16 l n) ∙ ap (λ (z : List ℕ). z ++ part_at 16 l n) (flat_rows n l) ∙ sym (take-add (16 * n) 16 l) ∙ ap (λ (k : ℕ). take k l) (sym (mul-suc 16 n))

flat-pairs : (pairs : List Pair) → encode pair_row pairs ≡ flat (rows_in pairs)
unfolding encode rows_in
flat-pairs [] = refl
flat-pairs (p ∷ pairs) = ap (λ (z : List ℕ). p.row ++ z) (flat-pairs pairs)

-- the rows of pairs that an array's first n are
pub rows_written : (n : ℕ) (l : List ℕ) (pairs : List Pair) → rows_of n l ≡ rows_in pairs → encode pair_row pairs ≡ take (16 * n) l
rows_written n l pairs e = flat-pairs pairs ∙ ap flat (sym e) ∙ flat_rows n l

-- ---- a trial's row
pub trial-row : (g : Gate) (w n : ℕ) (rows : List ℕ) (b c : ℕ) → b < n → c < n
    → gate_row g w (part_at 16 rows b) (part_at 16 rows c) ≡ trial_row w (rows_of n rows) (record { gate = g; b = b; c = c })
unfolding trial_row
trial-row g w n rows b c hb hc = ap₂ (gate_row g w) (sym (rows_at n rows b hb)) (sym (rows_at n rows c hc))
