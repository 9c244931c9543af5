-- The two cases of a Bool, and laws of lists: membership, counting up, places, what passes a test. Assumes nothing.
use mathlib.Core.Path.{◌≡◌, refl, sym, ap, ap₂, ◌∙◌, subst}
use mathlib.Core.Bool.{Bool, true, false, cond, ◌||◌}
use mathlib.Core.Logic.{◌⊎◌, inl, inr}
use mathlib.Core.List.{List, [], ◌∷◌, ◌++◌, map, flat_map, append_assoc}
use mathlib.Core.Option
use mathlib.Core.Option.{Option, none, some, or_else, none-ne-some, some-injective}
use Prim.Native.Nat.{ℕ, zero, suc, ◌+◌, ◌-◌, ◌≤◌, ◌<◌}
use native.Mathlib.Nat.{eq-or-lt_of_le}
use native.Mathlib.Numerals.{add-one}
use native.Mathlib.Omega.{arith}
use lib.ListN.{get_or, length}
use Rattle.arrays.specs.Lists.{count_up, In, Place, keep, first_that, first_of}

pub false_true : false ≡ true → ⊥
false_true p = let z : ◌≡◌ {A = ℕ} 0 1 = cc in omega arith

pub bool_cases : (b : Bool) → (b ≡ true) ⊎ (b ≡ false)
bool_cases true = inl refl
bool_cases false = inr refl

-- what isn't true is false
pub is_false : (b : Bool) → (b ≡ true → ⊥) → b ≡ false
is_false true h = absurd (h refl)
is_false false h = refl

-- ---- membership
pub in_left : {A : Type 0} (x : A) (xs ys : List A) → In x xs → In x (xs ++ ys)
in_left x [] ys h = absurd h
in_left x (y ∷ xs) ys (inl e) = inl e
in_left x (y ∷ xs) ys (inr h) = inr (in_left x xs ys h)

pub in_right : {A : Type 0} (x : A) (xs ys : List A) → In x ys → In x (xs ++ ys)
in_right x [] ys h = h
in_right x (y ∷ xs) ys h = inr (in_right x xs ys h)

pub in_split : {A : Type 0} (x : A) (xs ys : List A) → In x (xs ++ ys) → In x xs ⊎ In x ys
in_split x [] ys h = inr h
in_split x (y ∷ xs) ys (inl e) = inl (inl e)
in_split x (y ∷ xs) ys (inr h) = elim (in_split x xs ys h) [ inl l ↦ inl (inr l) | inr r ↦ inr r ]

pub in_map : {A B : Type 0} (f : A → B) (x : A) (xs : List A) → In x xs → In (f x) (map f xs)
in_map f x [] h = absurd h
in_map f x (y ∷ xs) (inl e) = inl (ap f e)
in_map f x (y ∷ xs) (inr h) = inr (in_map f x xs h)

pub record Preimage {A B : Type 0} (f : A → B) (y : B) (xs : List A) : Type 0 where
  pub of : A
  pub is : y ≡ f of
  pub at : In of xs

pub map_in : {A B : Type 0} (f : A → B) (y : B) (xs : List A) → In y (map f xs) → Preimage f y xs
map_in f y [] h = absurd h
map_in f y (x ∷ xs) (inl e) = record { of = x; is = e; at = inl refl }
map_in f y (x ∷ xs) (inr h) = let p = map_in f y xs h in record { of = p.of; is = p.is; at = inr p.at }

pub in_flat : {A B : Type 0} (f : A → List B) (x : A) (y : B) (xs : List A) → In x xs → In y (f x) → In y (flat_map f xs)
unfolding flat_map
in_flat f x y [] h i = absurd h
in_flat f x y (z ∷ xs) (inl e) i = in_left y (f z) (flat_map f xs) (subst (λ u. In y (f u)) e i)
in_flat f x y (z ∷ xs) (inr h) i = in_right y (f z) (flat_map f xs) (in_flat f x y xs h i)

pub record Source {A B : Type 0} (f : A → List B) (y : B) (xs : List A) : Type 0 where
  pub of : A
  pub within : In of xs
  pub at : In y (f of)

pub flat_in : {A B : Type 0} (f : A → List B) (y : B) (xs : List A) → In y (flat_map f xs) → Source f y xs
unfolding flat_map
flat_in f y [] h = absurd h
flat_in f y (x ∷ xs) h = go (in_split y (f x) (flat_map f xs) h) (λ i. flat_in f y xs i)
  where
    go : In y (f x) ⊎ In y (flat_map f xs) → (In y (flat_map f xs) → Source f y xs) → Source f y (x ∷ xs)
    go (inl i) rest = record { of = x; within = inl refl; at = i }
    go (inr i) rest = let s = rest i in record { of = s.of; within = inr s.within; at = s.at }

-- of two lists, one after the other
pub flat_append : {A B : Type 0} (f : A → List B) (xs ys : List A) → flat_map f (xs ++ ys) ≡ flat_map f xs ++ flat_map f ys
unfolding flat_map
flat_append f [] ys = refl
flat_append {A} {B} f (x ∷ xs) ys = ap (λ (l : List B). f x ++ l) (flat_append f xs ys) ∙ sym (append_assoc (f x) (flat_map f xs) (flat_map f ys))

-- ---- counting up
pub in_count : (i n x : ℕ) → i ≤ x → x < i + n → In x (count_up i n)
unfolding count_up
in_count i zero x l h = absurd (omega arith)
in_count i (suc n) x l h = go (eq-or-lt_of_le {n = i} {m = x} l) (λ m. in_count (suc i) n x m (omega arith))
  where
    go : (i ≡ x) ⊎ (i < x) → (i < x → In x (count_up (suc i) n)) → (x ≡ i) ⊎ In x (count_up (suc i) n)
    go (inl e) rest = inl (sym e)
    go (inr m) rest = inr (rest m)

pub count_in : (i n x : ℕ) → In x (count_up i n) → (i ≤ x) × (x < i + n)
unfolding count_up
count_in i zero x h = absurd h
count_in i (suc n) x (inl e) = (omega arith, omega arith)
count_in i (suc n) x (inr h) = let p = count_in (suc i) n x h in (omega arith, omega arith)

-- counting up from 0
pub up_in : (n x : ℕ) → x < n → In x (count_up 0 n)
up_in n x h = in_count 0 n x (omega arith) (omega arith)

pub in_up : (n x : ℕ) → In x (count_up 0 n) → x < n
in_up n x h = omega (arith, (count_in 0 n x h).1)

-- the first m, and the rest
pub count_add : (i m n : ℕ) → count_up i (m + n) ≡ count_up i m ++ count_up (i + m) n
unfolding count_up
count_add i zero n = ap (λ (k : ℕ). count_up i k) (zero_left n) ∙ ap (λ (k : ℕ). count_up k n) (zero_right i)
  where
    zero_left : (n : ℕ) → 0 + n ≡ n
    zero_left n = omega arith

    zero_right : (i : ℕ) → i ≡ i + 0
    zero_right i = omega arith
count_add i (suc m) n =
    let e : suc m + n ≡ suc (m + n) = omega arith in
    let f : suc i + m ≡ i + suc m = omega arith in
    ap (λ (k : ℕ). count_up i k) e ∙ ap (λ (l : List ℕ). i ∷ l) (count_add (suc i) m n ∙ ap (λ (k : ℕ). count_up (suc i) m ++ count_up k n) f)

-- from i up to n
pub count-step : (i n : ℕ) → i < n → count_up i (n - i) ≡ i ∷ count_up (i + 1) (n - (i + 1))
unfolding count_up
count-step i n h =
    let e : n - i ≡ suc (n - (i + 1)) = omega arith in
    ap (count_up i) e ∙ ap (λ (k : ℕ). i ∷ count_up k (n - (i + 1))) (sym (add-one i))

pub count_end : (i n : ℕ) → n ≤ i → count_up i (n - i) ≡ []
unfolding count_up
count_end i n h = let e : n - i ≡ 0 = omega arith in ap (count_up i) e

pub count-start : (n : ℕ) → count_up 0 (n - 0) ≡ count_up 0 n
count-start n = let e : n - 0 ≡ n = omega arith in ap (count_up 0) e

-- how many they are, and which stands where
pub length-count : (i n : ℕ) → length (count_up i n) ≡ n
unfolding count_up
length-count i zero = refl
length-count i (suc n) = ap suc (length-count (suc i) n)

pub get_or-count : (i n k d : ℕ) → k < n → get_or (count_up i n) k d ≡ i + k
unfolding count_up
get_or-count i zero k d h = absurd (omega arith)
get_or-count i (suc n) zero d h = omega arith
get_or-count i (suc n) (suc k) d h = get_or-count (suc i) n k d (omega arith) ∙ omega arith

-- ---- places
-- an element of a mapped list
pub get_d_map : {A B : Type 0} (f : A → B) (l : List A) (k : ℕ) (d : A) (e : B) → k < length l → get_or (map f l) k e ≡ f (get_or l k d)
get_d_map f [] k d e h = absurd (omega arith)
get_d_map f (a ∷ l) zero d e h = refl
get_d_map f (a ∷ l) (suc k) d e h = get_d_map f l k d e (omega arith)

pub in_at : {A : Type 0} (d : A) (xs : List A) (i : ℕ) → i < length xs → In (get_or xs i d) xs
in_at d [] i h = absurd (omega arith)
in_at d (x ∷ xs) zero h = inl refl
in_at d (x ∷ xs) (suc i) h = inr (in_at d xs i (omega arith))

pub in_place : {A : Type 0} (d x : A) (xs : List A) → In x xs → Place d x xs
in_place d x [] h = absurd h
in_place d x (y ∷ xs) (inl e) = record { at = 0; below = omega arith; is = sym e }
in_place d x (y ∷ xs) (inr h) = let p = in_place d x xs h in record { at = suc p.at; below = omega (arith, p.below); is = p.is }

pub place_in : {A : Type 0} {d x : A} {xs : List A} → Place d x xs → In x xs
place_in {d = d} {xs = xs} p = subst (λ y. In y xs) p.is (in_at d xs p.at p.below)

-- ---- what passes a test
module _ {A : Type 0} (test : A → Bool) (x : A) (l : List A) where
  pub keep_yes : test x ≡ true → keep test (x ∷ l) ≡ x ∷ keep test l
  unfolding keep
  keep_yes e = rw (e, keep)

  pub keep_no : test x ≡ false → keep test (x ∷ l) ≡ keep test l
  unfolding keep
  keep_no e = rw (e, keep)

  pub first_yes : test x ≡ true → first_that test (x ∷ l) ≡ some x
  unfolding first_that
  first_yes e = rw (e, first_that)

  pub first_no : test x ≡ false → first_that test (x ∷ l) ≡ first_that test l
  unfolding first_that
  first_no e = rw (e, first_that)

-- a test that nothing passes, and two tests that say the same
module _ {A : Type 0} (test : A → Bool) where
  pub keep-none : (l : List A) → ((x : A) → test x ≡ false) → keep test l ≡ []
  unfolding keep
  keep-none [] h = refl
  keep-none (x ∷ l) h = keep_no test x l (h x) ∙ keep-none l h

  pub keep_same : (other : A → Bool) (l : List A) → ((x : A) → test x ≡ other x) → keep test l ≡ keep other l
  unfolding keep
  keep_same other [] h = refl
  keep_same other (x ∷ l) h = ap₂ (λ (b : Bool) (m : List A). cond b (x ∷ m) m) (h x) (keep_same other l h)

  pub keep_append : (xs ys : List A) → keep test (xs ++ ys) ≡ keep test xs ++ keep test ys
  unfolding keep
  keep_append [] ys = refl
  keep_append (x ∷ xs) ys = go (bool_cases (test x)) (keep_append xs ys)
    where
      go : (test x ≡ true) ⊎ (test x ≡ false) → keep test (xs ++ ys) ≡ keep test xs ++ keep test ys → keep test (x ∷ (xs ++ ys)) ≡ keep test (x ∷ xs) ++ keep test ys
      go (inl p) e = keep_yes test x (xs ++ ys) p ∙ ap (λ (l : List A). x ∷ l) e ∙ ap (λ (l : List A). l ++ keep test ys) (sym (keep_yes test x xs p))
      go (inr p) e = keep_no test x (xs ++ ys) p ∙ e ∙ ap (λ (l : List A). l ++ keep test ys) (sym (keep_no test x xs p))

  -- what is kept is of the list, and passes
  pub keep_in : (l : List A) (x : A) → In x (keep test l) → In x l × (test x ≡ true)
  unfolding keep
  keep_in [] x h = absurd h
  keep_in (y ∷ l) x h = go (bool_cases (test y)) (keep_in l x)
    where
      go : (test y ≡ true) ⊎ (test y ≡ false) → (In x (keep test l) → In x l × (test x ≡ true)) → In x (y ∷ l) × (test x ≡ true)
      go (inl p) rest = elim (subst (In x) (keep_yes test y l p) h) [ inl e ↦ (inl e, ap test e ∙ p) | inr i ↦ (inr (rest i).0, (rest i).1) ]
      go (inr p) rest = let i = rest (subst (In x) (keep_no test y l p) h) in (inr i.0, i.1)

  pub in_keep : (l : List A) (x : A) → In x l → test x ≡ true → In x (keep test l)
  unfolding keep
  in_keep [] x h e = absurd h
  in_keep (y ∷ l) x h e = go (bool_cases (test y)) h (in_keep l x)
    where
      go : (test y ≡ true) ⊎ (test y ≡ false) → In x (y ∷ l) → (In x l → test x ≡ true → In x (keep test l)) → In x (keep test (y ∷ l))
      go (inl p) (inl q) rest = subst (In x) (sym (keep_yes test y l p)) (inl q)
      go (inl p) (inr i) rest = subst (In x) (sym (keep_yes test y l p)) (inr (rest i e))
      go (inr p) (inl q) rest = absurd (false_true (sym p ∙ ap test (sym q) ∙ e))
      go (inr p) (inr i) rest = subst (In x) (sym (keep_no test y l p)) (rest i e)

  -- none is the first exactly if none passes
  pub first-none : (l : List A) → ((x : A) → In x l → test x ≡ false) → first_that test l ≡ none
  unfolding first_that
  first-none [] h = refl
  first-none (y ∷ l) h = first_no test y l (h y (inl refl)) ∙ first-none l (λ x i. h x (inr i))

  -- what is the first passes, and is of the list
  pub first_passes : (l : List A) (x : A) → first_that test l ≡ some x → In x l × (test x ≡ true)
  unfolding first_that
  first_passes [] x e = absurd (none-ne-some x e)
  first_passes (y ∷ l) x e = go (bool_cases (test y)) (λ f. first_passes l x f)
    where
      go : (test y ≡ true) ⊎ (test y ≡ false) → (first_that test l ≡ some x → In x l × (test x ≡ true)) → In x (y ∷ l) × (test x ≡ true)
      go (inl p) rest = let same : x ≡ y = some-injective x y (sym e ∙ first_yes test y l p) in (inl same, ap test same ∙ p)
      go (inr p) rest = let r = rest (sym (first_no test y l p) ∙ e) in (inr r.0, r.1)

  pub none_passes : (l : List A) → first_that test l ≡ none → (x : A) → In x l → test x ≡ false
  none_passes [] e x h = absurd h
  none_passes (y ∷ l) e x h = go (bool_cases (test y)) h (λ f i. none_passes l f x i)
    where
      go : (test y ≡ true) ⊎ (test y ≡ false) → In x (y ∷ l) → (first_that test l ≡ none → In x l → test x ≡ false) → test x ≡ false
      go (inl p) i rest = absurd (none-ne-some y (sym e ∙ first_yes test y l p))
      go (inr p) (inl q) rest = ap test q ∙ p
      go (inr p) (inr i) rest = rest (sym (first_no test y l p) ∙ e) i

-- the first that passes, counting up to n
module _ (test : ℕ → Bool) (n : ℕ) where
  pub up_start : first_that test (count_up 0 (n - 0)) ≡ first_that test (count_up 0 n)
  up_start = ap (first_that test) (count-start n)

  pub up-hit : (i : ℕ) → i < n → test i ≡ true → first_that test (count_up i (n - i)) ≡ some i
  up-hit i h e = ap (first_that test) (count-step i n h) ∙ first_yes test i (count_up (i + 1) (n - (i + 1))) e

  pub up_miss : (i : ℕ) → i < n → test i ≡ false → first_that test (count_up (i + 1) (n - (i + 1))) ≡ first_that test (count_up i (n - i))
  up_miss i h e = sym (ap (first_that test) (count-step i n h) ∙ first_no test i (count_up (i + 1) (n - (i + 1))) e)

  pub up_end : (i : ℕ) → n ≤ i → first_that test (count_up i (n - i)) ≡ none
  unfolding first_that
  up_end i h = ap (first_that test) (count_end i n h)

  -- from a on, where none before it passes
  pub up_from : (a : ℕ) → a ≤ n → ((b : ℕ) → b < a → test b ≡ false) → first_that test (count_up a (n - a)) ≡ first_that test (count_up 0 n)
  up_from zero h none_before = up_start
  up_from (suc a) h none_before =
      ap (λ (i : ℕ). first_that test (count_up i (n - i))) (sym (add-one a))
      ∙ up_miss a (omega arith) (none_before a (omega arith))
      ∙ up_from a (omega arith) (λ b l. none_before b (omega arith))

  -- none passes
  pub up-nothing : ((s : ℕ) → s < n → test s ≡ false) → first_that test (count_up 0 n) ≡ none
  up-nothing h = first-none test (count_up 0 n) (λ s i. h s (in_up n s i))

  pub up_none : none ≡ first_that test (count_up 0 n) → (b : ℕ) → b < n → test b ≡ false
  up_none e b h = none_passes test (count_up 0 n) (sym e) b (in_count 0 n b (omega arith) (omega arith))

-- ---- the first that passes, over lists joined and mapped
pub first-append : {A : Type 0} (test : A → Bool) (xs ys : List A) → first_that test (xs ++ ys) ≡ or_else (first_that test xs) (first_that test ys)
unfolding first_that or_else
first-append test [] ys = refl
first-append {A} test (x ∷ xs) ys = elim (bool_cases (test x)) [
  | inl y ↦ first_yes test x (xs ++ ys) y ∙ ap (λ (o : Option A). or_else o (first_that test ys)) (sym (first_yes test x xs y))
  | inr n ↦
      first_no test x (xs ++ ys) n ∙ first-append test xs ys
      ∙ ap (λ (o : Option A). or_else o (first_that test ys)) (sym (first_no test x xs n))
]

-- g carries one test to another
pub first-map : {A B : Type 0} (test : B → Bool) (f : A → Bool) (g : A → B) → ((x : A) → test (g x) ≡ f x) → (l : List A) → first_that test (map g l) ≡ Option.map g (first_that f l)
unfolding first_that
first-map test f g same [] = refl
first-map test f g same (x ∷ l) = elim (bool_cases (f x)) [
  | inl y ↦ first_yes test (g x) (map g l) (same x ∙ y) ∙ ap (Option.map g) (sym (first_yes f x l y))
  | inr n ↦ first_no test (g x) (map g l) (same x ∙ n) ∙ first-map test f g same l ∙ ap (Option.map g) (sym (first_no f x l n))
]

-- ---- the first answer along a list
-- part after part
pub first_flat : {A B : Type 0} (test : B → Bool) (f : A → List B) (l : List A) → first_that test (flat_map f l) ≡ first_of (λ (x : A). first_that test (f x)) l
unfolding first_that first_of flat_map
first_flat test f [] = refl
first_flat {A} {B} test f (x ∷ l) =
    first-append test (f x) (flat_map f l) ∙ ap (λ (o : Option B). or_else (first_that test (f x)) o) (first_flat test f l)

-- counting up to n
module _ {B : Type 0} (f : ℕ → Option B) (n : ℕ) where
  pub of_start : first_of f (count_up 0 (n - 0)) ≡ first_of f (count_up 0 n)
  of_start = ap (first_of f) (count-start n)

  pub of_hit : (i : ℕ) → i < n → (x : B) → f i ≡ some x → first_of f (count_up i (n - i)) ≡ some x
  unfolding first_of or_else
  of_hit i h x e = ap (first_of f) (count-step i n h) ∙ ap (λ (o : Option B). or_else o (first_of f (count_up (i + 1) (n - (i + 1))))) e

  pub of_miss : (i : ℕ) → i < n → f i ≡ none → first_of f (count_up (i + 1) (n - (i + 1))) ≡ first_of f (count_up i (n - i))
  unfolding first_of or_else
  of_miss i h e = sym (ap (first_of f) (count-step i n h) ∙ ap (λ (o : Option B). or_else o (first_of f (count_up (i + 1) (n - (i + 1))))) e)

  pub of_end : (i : ℕ) → n ≤ i → first_of f (count_up i (n - i)) ≡ none
  unfolding first_of
  of_end i h = ap (first_of f) (count_end i n h)

  -- from a on, where it answers nothing before
  pub of_from : (a : ℕ) → a ≤ n → ((b : ℕ) → b < a → f b ≡ none) → first_of f (count_up a (n - a)) ≡ first_of f (count_up 0 n)
  of_from zero h none_before = of_start
  of_from (suc a) h none_before =
      ap (λ (i : ℕ). first_of f (count_up i (n - i))) (sym (add-one a))
      ∙ of_miss a (omega arith) (none_before a (omega arith))
      ∙ of_from a (omega arith) (λ b l. none_before b (omega arith))

  -- it answers nothing at all
  pub of_nothing : ((a : ℕ) → a < n → f a ≡ none) → first_of f (count_up 0 n) ≡ none
  of_nothing h = sym (of_from n (omega arith) h) ∙ of_end n (omega arith)

  -- the first answer is that at m
  pub of_something : (m : ℕ) (x : B) → m < n → ((a : ℕ) → a < m → f a ≡ none) → f m ≡ some x → first_of f (count_up 0 n) ≡ some x
  of_something m x l h e = sym (of_from m (omega arith) h) ∙ of_hit m l x e

-- ---- nothing on the right
pub or_none : {B : Type 0} (o : Option B) → or_else o none ≡ o
unfolding or_else
or_none none = refl
or_none (some x) = refl

pub or_false : (b : Bool) → b || false ≡ b
or_false true = refl
or_false false = refl

-- the first of one
pub first_alone : (P : ℕ → Type 0) → P 0 → (k : ℕ) → k < 1 → P k
first_alone P p k l = subst P (omega arith) p
