-- Laws of the test whether a word reaches a bound: one word more. Assumes nothing.
use mathlib.Core.Path.{◌≡◌, sym, ap, ◌∙◌}
use mathlib.Core.Bool.{Bool, true, false, ◌||◌}
use mathlib.Core.List.{List, [], ◌∷◌}
use Prim.Native.Nat.{ℕ, zero, suc, ◌+◌, ◌≤◌, ◌<◌}
use native.Mathlib.Numerals.{add-one}
use native.Mathlib.Omega.{arith}
use borrow.Author.Tests.{le-leb, lt-leb, leb-false}
use lib.Dec.{leb}
use lib.ListN.{length, get_or, drop, drop_of_length-le}
use lib.Seq.{drop-cons}
use Rattle.limits.proofs.Refusals.{neither}
use Rattle.row_lent.specs.Range.{reaches}

-- the test of the words from place i on, by the word there
pub reaches_here : (m : ℕ) (l : List ℕ) (i : ℕ) → i < length l → m ≤ get_or l i 0 → reaches m (drop i l) ≡ true
unfolding reaches
reaches_here m l i h le =
    ap (reaches m) (drop-cons l i 0 h) ∙ ap (λ (b : Bool). b || reaches m (drop (suc i) l)) (le-leb m (get_or l i 0) le)

pub reaches-later : (m : ℕ) (l : List ℕ) (i : ℕ) → i < length l → get_or l i 0 < m → reaches m (drop i l) ≡ reaches m (drop (i + 1) l)
unfolding reaches
reaches-later m l i h lt =
    ap (reaches m) (drop-cons l i 0 h)
    ∙ ap (λ (b : Bool). b || reaches m (drop (suc i) l)) (lt-leb m (get_or l i 0) lt)
    ∙ ap (λ (n : ℕ). reaches m (drop n l)) (sym (add-one i))

pub reaches-none : (m : ℕ) (l : List ℕ) (i : ℕ) → length l ≤ i → reaches m (drop i l) ≡ false
unfolding reaches
reaches-none m l i h = ap (reaches m) (drop_of_length-le l h)

-- where refusal 5 doesn't apply, each word is below 2^w
pub not_reached : (m : ℕ) (l : List ℕ) → reaches m l ≡ false → (j : ℕ) → j < length l → get_or l j 0 < m
unfolding reaches
not_reached m [] e j h = absurd (omega arith)
not_reached m (x ∷ l) e zero h = leb-false m x (neither (leb m x) (reaches m l) e).0
not_reached m (x ∷ l) e (suc j) h = not_reached m l (neither (leb m x) (reaches m l) e).1 j (omega arith)
