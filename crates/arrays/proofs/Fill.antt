-- A loop that stores element after element: what its invariant needs, whatever is stored; and lists joined place by place. Assumes nothing.
use mathlib.Core.Path.{◌≡◌, refl, sym, ap, ◌∙◌, subst}
use mathlib.Core.List.{List, [], ◌∷◌, ◌++◌, zip_with}
use Prim.Native.Nat.{ℕ, zero, suc, ◌+◌, ◌≤◌, ◌<◌}
use native.Mathlib.Nat.{lt_irrefl}
use native.Mathlib.Omega.{arith}
use borrow.Author.Count.{below_more}
use lib.ListN.{length, get_or, set, drop, length-append, length-drop}
use lib.Seq.{get_or-set_same, get_or-set_other, ext_get_or, set_at, append_snoc, drop-cons}
use Rattle.arrays.specs.Lists.{laid}

-- the elements below i are those of f
abbrev pub Filled : (f : ℕ → ℕ) (l : List ℕ) (i : ℕ) → Type 0
Filled f l i = (k : ℕ) → k < i → get_or l k 0 ≡ f k

-- one more is stored
pub filled_more : (f : ℕ → ℕ) (l : List ℕ) (i v : ℕ) → i < length l → Filled f l i → v ≡ f i → Filled f (set l i v) (i + 1)
filled_more f l i v h below e =
    below_more (λ (k : ℕ). get_or (set l i v) k 0 ≡ f k) i
    (λ k lt. get_or-set_other l i k v 0 (λ q. lt_irrefl i (subst (λ (x : ℕ). x < i) q lt)) ∙ below k lt)
    (get_or-set_same l i v 0 h ∙ e)

-- all are stored
pub filled-all : (f : ℕ → ℕ) (l r : List ℕ) (i : ℕ) → length l ≡ length r → length l ≤ i → Filled f l i → Filled f r (length r) → l ≡ r
filled-all f l r i e h below right = ext_get_or 0 l r e (λ k lt. below k (omega arith) ∙ sym (right k (omega arith)))

-- what is laid keeps the array's length
pub length-laid : (xs old : List ℕ) → length xs ≤ length old → length (laid xs old) ≡ length old
length-laid xs old h = length-append xs (drop (length xs) old) ∙ omega (arith, length-drop (length xs) old)

-- one element more, in the place after those laid
pub laid_more : (xs old : List ℕ) (i v : ℕ) → length xs ≡ i → i < length old → set (laid xs old) i v ≡ laid (xs ++ (v ∷ [])) old
laid_more xs old i v e h =
    let next : length (xs ++ (v ∷ [])) ≡ suc i = length-append xs (v ∷ []) ∙ omega arith in
    ap (λ (n : ℕ). set (xs ++ drop n old) i v) e
    ∙ ap (λ (l : List ℕ). set (xs ++ l) i v) (drop-cons old i 0 h)
    ∙ set_at xs (get_or old i 0) (drop (suc i) old) v i e
    ∙ sym (append_snoc xs v (drop (suc i) old))
    ∙ ap (λ (n : ℕ). (xs ++ (v ∷ [])) ++ drop n old) (sym next)

-- three elements stored, one after the other
pub three_stored : (l : List ℕ) (a b c : ℕ) → length l ≡ 3 → set (set (set l 0 a) 1 b) 2 c ≡ a ∷ (b ∷ (c ∷ []))
three_stored [] a b c h = absurd (omega arith)
three_stored (x ∷ []) a b c h = absurd (omega arith)
three_stored (x ∷ (y ∷ [])) a b c h = absurd (omega arith)
three_stored (x ∷ (y ∷ (z ∷ []))) a b c h = refl
three_stored (x ∷ (y ∷ (z ∷ (w ∷ l)))) a b c h = absurd (omega arith)

-- ---- two lists joined place by place
pub length-zip_with : (f : ℕ → ℕ → ℕ) (xs ys : List ℕ) → length xs ≡ length ys → length (zip_with f xs ys) ≡ length xs
unfolding zip_with
length-zip_with f [] ys h = refl
length-zip_with f (x ∷ xs) [] h = sym h
length-zip_with f (x ∷ xs) (y ∷ ys) h = ap suc (length-zip_with f xs ys (omega arith))

pub get_or-zip_with : (f : ℕ → ℕ → ℕ) (xs ys : List ℕ) (k : ℕ) → k < length xs → k < length ys → get_or (zip_with f xs ys) k 0 ≡ f (get_or xs k 0) (get_or ys k 0)
unfolding zip_with
get_or-zip_with f [] ys k h l = absurd (omega arith)
get_or-zip_with f (x ∷ xs) [] k h l = absurd (omega arith)
get_or-zip_with f (x ∷ xs) (y ∷ ys) zero h l = refl
get_or-zip_with f (x ∷ xs) (y ∷ ys) (suc k) h l = get_or-zip_with f xs ys k (omega arith) (omega arith)

-- a list whose elements are those of two others joined
pub zipped : (f : ℕ → ℕ → ℕ) (xs ys l : List ℕ) (i : ℕ) → length l ≡ length xs → length xs ≡ length ys → length l ≤ i → Filled (λ (k : ℕ). f (get_or xs k 0) (get_or ys k 0)) l i → l ≡ zip_with f xs ys
zipped f xs ys l i e d h below =
    filled-all (λ (k : ℕ). f (get_or xs k 0) (get_or ys k 0)) l (zip_with f xs ys) i
    (omega (arith, length-zip_with f xs ys d))
    h
    below
    (λ k lt. get_or-zip_with f xs ys k (omega (arith, length-zip_with f xs ys d)) (omega (arith, length-zip_with f xs ys d)))
