-- Laws of keeping the least: part after part, what changes nothing, that it is the least, and place after place. Assumes nothing.
use mathlib.Core.Path.{◌≡◌, refl, sym, ap, ap₂, ◌∙◌, subst}
use mathlib.Core.Bool.{Bool, true, false, cond, ◌&&◌}
use mathlib.Core.Logic.{◌⊎◌, inl, inr}
use mathlib.Core.List.{List, [], ◌∷◌, ◌++◌, map, map-append, map-map}
use mathlib.Core.Option.{Option, none, some, none-ne-some, some-injective}
use Prim.Native.Nat.{ℕ, ◌+◌, ◌-◌, ◌≤◌, ◌<◌}
use native.Mathlib.Omega.{arith}
use lib.ListN.{length, get_or, take, length-map}
use lib.Seq.{ext_get_or, get_or-take, length-take-le}
use Rattle.arrays.specs.Lists.{In, count_up}
use Rattle.arrays.specs.Least.{kept, keep_least, least_that, IsLeast, Ranks}
use Rattle.arrays.proofs.Lists.{false_true, bool_cases, is_false, in_right, in_split, map_in, count_add, count_end, count_in, get_or-count, get_d_map, length-count}

module _ {A : Type 0} (test : A → Bool) (better : A → A → Bool) where
  -- ---- one element
  pub kept_fails : (o : Option A) (x : A) → test x ≡ false → kept test better o x ≡ o
  unfolding kept
  kept_fails none x e = ap (λ (b : Bool). cond b (some x) none) e
  kept_fails (some y) x e = ap (λ (b : Bool). cond (b && better x y) (some x) (some y)) e

  pub kept-dearer : (y x : A) → better x y ≡ false → kept test better (some y) x ≡ some y
  unfolding kept
  kept-dearer y x e = elim (bool_cases (test x)) [
    | inl p ↦ ap₂ (λ (b d : Bool). cond (b && d) (some x) (some y)) p e
    | inr p ↦ ap (λ (b : Bool). cond (b && better x y) (some x) (some y)) p
  ]

  pub kept-first : (x : A) → test x ≡ true → kept test better none x ≡ some x
  unfolding kept
  kept-first x e = ap (λ (b : Bool). cond b (some x) none) e

  pub kept_better : (y x : A) → test x ≡ true → better x y ≡ true → kept test better (some y) x ≡ some x
  unfolding kept
  kept_better y x e d = ap₂ (λ (b c : Bool). cond (b && c) (some x) (some y)) e d

  -- ---- lists
  pub least-append : (o : Option A) (xs ys : List A) → keep_least test better o (xs ++ ys) ≡ keep_least test better (keep_least test better o xs) ys
  unfolding keep_least
  least-append o [] ys = refl
  least-append o (x ∷ xs) ys = least-append (kept test better o x) xs ys

  pub least-one : (o : Option A) (x : A) → keep_least test better o (x ∷ []) ≡ kept test better o x
  unfolding keep_least
  least-one o x = refl

  -- elements that change nothing
  pub least_stays : (o : Option A) (l : List A) → ((x : A) → In x l → kept test better o x ≡ o) → keep_least test better o l ≡ o
  unfolding keep_least
  least_stays o [] h = refl
  least_stays o (x ∷ l) h = ap (λ (q : Option A). keep_least test better q l) (h x (inl refl)) ∙ least_stays o l (λ y i. h y (inr i))

  pub least_fails : (o : Option A) (l : List A) → ((x : A) → In x l → test x ≡ false) → keep_least test better o l ≡ o
  least_fails o l h = least_stays o l (λ x i. kept_fails o x (h x i))

  -- ---- nothing is kept exactly if nothing passes
  keeps-some : (y : A) (l : List A) → keep_least test better (some y) l ≡ none → ⊥
  unfolding keep_least
  keeps-some y [] e = none-ne-some y (sym e)
  keeps-some y (x ∷ l) e = elim (bool_cases (test x)) [
    | inr p ↦ keeps-some y l (ap (λ (q : Option A). keep_least test better q l) (sym (kept_fails (some y) x p)) ∙ e)
    | inl p ↦ elim (bool_cases (better x y)) [
      | inl d ↦ keeps-some x l (ap (λ (q : Option A). keep_least test better q l) (sym (kept_better y x p d)) ∙ e)
      | inr d ↦ keeps-some y l (ap (λ (q : Option A). keep_least test better q l) (sym (kept-dearer y x d)) ∙ e)
    ]
  ]

  pub least-none : (l : List A) → least_that test better l ≡ none → (x : A) → In x l → test x ≡ false
  unfolding least_that keep_least
  least-none [] e x i = absurd i
  least-none (y ∷ l) e x i = elim (bool_cases (test y)) [
    | inl p ↦ absurd (keeps-some y l (ap (λ (q : Option A). keep_least test better q l) (sym (kept-first y p)) ∙ e))
    | inr p ↦ go i p (least-none l (ap (λ (q : Option A). keep_least test better q l) (sym (kept_fails none y p)) ∙ e) x)
  ]
    where
      go : In x (y ∷ l) → test y ≡ false → (In x l → test x ≡ false) → test x ≡ false
      go (inl q) p rest = ap test q ∙ p
      go (inr j) p rest = rest j

  pub none-least : (l : List A) → ((x : A) → In x l → test x ≡ false) → least_that test better l ≡ none
  unfolding least_that
  none-least l h = least_fails none l h

  -- ---- what is kept is the least
  module _ (ranks : Ranks better) where
    -- what was kept before stays, and nothing is better; or the least of the list, which is better than what was kept before
    pub data Came (o : Option A) (l : List A) (x : A) : Type 0 where
      stayed : o ≡ some x → ((y : A) → In y l → test y ≡ true → better y x ≡ false) → Came o l x
      found : IsLeast test better l x → ((y : A) → o ≡ some y → better x y ≡ true) → Came o l x

    -- an element more, which is dropped, or kept
    module _ (o : Option A) (z : A) (l : List A) (x : A) where
      dropped : (test z ≡ true → (y : A) → o ≡ some y → better z y ≡ false) → (o ≡ none → test z ≡ false) → Came o l x → Came o (z ∷ l) x
      dropped worse none_yet (stayed is rest) = stayed is each
        where
          each : (y : A) → In y (z ∷ l) → test y ≡ true → better y x ≡ false
          each y (inl q) t = ap (λ (u : A). better u x) q ∙ worse (ap test (sym q) ∙ t) x is
          each y (inr i) t = rest y i t
      dropped worse none_yet (found least over) = found (record {
        earlier = z ∷ least.earlier;
        later = least.later;
        stands = ap (λ (m : List A). z ∷ m) least.stands;
        passes = least.passes;
        dearer = each o refl;
        no_better = least.no_better;
      }) over
        where
          each : (p : Option A) → p ≡ o → (y : A) → In y (z ∷ least.earlier) → test y ≡ true → better x y ≡ true
          each p q y (inr i) t = least.dearer y i t
          each none q y (inl w) t = absurd (false_true (sym (none_yet (sym q)) ∙ ap test (sym w) ∙ t))
          each (some v) q y (inl w) t = elim (bool_cases (better x y)) [
            | inl b ↦ b
            | inr b ↦
                absurd (false_true (sym (ranks.not-trans x y v b (ap (λ (u : A). better u v) w ∙ worse (ap test (sym w) ∙ t) v (sym q))) ∙ over v (sym q)))
          ]

      taken : test z ≡ true → ((y : A) → o ≡ some y → better z y ≡ true) → Came (some z) l x → Came o (z ∷ l) x
      taken t over (stayed is rest) =
          let q : z ≡ x = some-injective z x is in
          found (record {
            earlier = [];
            later = l;
            stands = ap (λ (u : A). u ∷ l) q;
            passes = ap test (sym q) ∙ t;
            dearer = λ y i. absurd i;
            no_better = rest;
          }) (λ y e. ap (λ (u : A). better u y) (sym q) ∙ over y e)
      taken t over (found least more) = found (record {
        earlier = z ∷ least.earlier;
        later = least.later;
        stands = ap (λ (m : List A). z ∷ m) least.stands;
        passes = least.passes;
        dearer = each;
        no_better = least.no_better;
      }) (λ y e. ranks.trans x z y (more z refl) (over y e))
        where
          each : (y : A) → In y (z ∷ least.earlier) → test y ≡ true → better x y ≡ true
          each y (inl w) p = ap (λ (u : A). better x u) w ∙ more z refl
          each y (inr i) p = least.dearer y i p

    pub came : (o : Option A) (l : List A) (x : A) → keep_least test better o l ≡ some x → Came o l x
    unfolding keep_least
    came o [] x e = stayed e (λ y i. absurd i)
    came none (z ∷ l) x e = elim (bool_cases (test z)) [
      | inl p ↦
          taken none z l x p (λ y q. absurd (none-ne-some y q))
          (came (some z) l x (ap (λ (q : Option A). keep_least test better q l) (sym (kept-first z p)) ∙ e))
      | inr p ↦
          dropped none z l x (λ t y q. absurd (none-ne-some y q)) (λ _. p)
          (came none l x (ap (λ (q : Option A). keep_least test better q l) (sym (kept_fails none z p)) ∙ e))
    ]
    came (some v) (z ∷ l) x e = elim (bool_cases (test z)) [
      | inr p ↦
          dropped (some v) z l x (λ t. absurd (false_true (sym p ∙ t))) (λ q. absurd (none-ne-some v (sym q)))
          (came (some v) l x (ap (λ (q : Option A). keep_least test better q l) (sym (kept_fails (some v) z p)) ∙ e))
      | inl p ↦ elim (bool_cases (better z v)) [
        | inl b ↦
            taken (some v) z l x p (λ y q. ap (better z) (sym (some-injective v y q)) ∙ b)
            (came (some z) l x (ap (λ (q : Option A). keep_least test better q l) (sym (kept_better v z p b)) ∙ e))
        | inr b ↦
            dropped (some v) z l x (λ t y q. ap (better z) (sym (some-injective v y q)) ∙ b)
            (λ q. absurd (none-ne-some v (sym q)))
            (came (some v) l x (ap (λ (q : Option A). keep_least test better q l) (sym (kept-dearer v z b)) ∙ e))
      ]
    ]

    pub is-least : (l : List A) (x : A) → least_that test better l ≡ some x → IsLeast test better l x
    unfolding least_that
    is-least l x e = go (came none l x e)
      where
        go : Came none l x → IsLeast test better l x
        go (stayed q rest) = absurd (none-ne-some x q)
        go (found least over) = least

    -- nothing that passes is better
    pub none_better : (l : List A) (x y : A) → IsLeast test better l x → In y l → test y ≡ true → better y x ≡ false
    none_better l x y least i t = go (in_split y least.earlier (x ∷ least.later) (subst (In y) least.stands i))
      where
        go : In y least.earlier ⊎ In y (x ∷ least.later) → better y x ≡ false
        go (inl j) = is_false (better y x) (λ b. false_true (sym (ranks.irrefl x) ∙ ranks.trans x y x (least.dearer y j t) b))
        go (inr (inl q)) = ap (λ (u : A). better u x) q ∙ ranks.irrefl x
        go (inr (inr j)) = least.no_better y j t

    -- an element that a like one came before changes nothing
    pub least-again : (l : List A) (z y : A) → In y l → test y ≡ test z → ((x : A) → better z x ≡ better y x) → kept test better (least_that test better l) z ≡ least_that test better l
    least-again l z y i t same = elim (bool_cases (test z)) [
      | inr p ↦ kept_fails (least_that test better l) z p
      | inl p ↦ go (least_that test better l) refl p
    ]
      where
        go : (o : Option A) → least_that test better l ≡ o → test z ≡ true → kept test better o z ≡ o
        go none e p = absurd (false_true (sym (least-none l e y i) ∙ t ∙ p))
        go (some x) e p = kept-dearer x z (same x ∙ none_better l x y (is-least l x e) i (t ∙ p))

-- ---- place after place: what f makes of the places from i on
module _ {A : Type 0} (test : A → Bool) (better : A → A → Bool) (o : Option A) (f : ℕ → A) (i : ℕ) where
  -- up to j
  abbrev pub kept_to : ℕ → Option A
  kept_to j = keep_least test better o (map f (count_up i (j - i)))

  pub to_none : kept_to i ≡ o
  unfolding keep_least
  to_none = ap (λ (l : List ℕ). keep_least test better o (map f l)) (count_end i i (omega arith))

  to-more : (j r : ℕ) → i ≤ j → j ≤ r → kept_to r ≡ keep_least test better (kept_to j) (map f (count_up j (r - j)))
  to-more j r l h =
      let e : r - i ≡ j - i + (r - j) = omega arith in
      let g : i + (j - i) ≡ j = omega arith in
      ap (λ (l : List ℕ). keep_least test better o (map f l)) (ap (count_up i) e ∙ count_add i (j - i) (r - j) ∙ ap (λ (k : ℕ). count_up i (j - i) ++ count_up k (r - j)) g)
      ∙ ap (keep_least test better o) (map-append f (count_up i (j - i)) (count_up j (r - j)))
      ∙ least-append test better o (map f (count_up i (j - i))) (map f (count_up j (r - j)))

  -- places that change nothing
  pub to_stays : (j r : ℕ) → i ≤ j → j ≤ r → ((k : ℕ) → j ≤ k → k < r → kept test better (kept_to j) (f k) ≡ kept_to j) → kept_to r ≡ kept_to j
  to_stays j r l h each =
      to-more j r l h
      ∙ least_stays test better (kept_to j) (map f (count_up j (r - j))) (λ x m.
      let p = map_in f x (count_up j (r - j)) m in
      let c = count_in j (r - j) p.of p.at in
      ap (kept test better (kept_to j)) p.is ∙ each p.of c.0 (omega (arith, c.1)))

  pub to_skip : (j r : ℕ) → i ≤ j → j ≤ r → ((k : ℕ) → j ≤ k → k < r → test (f k) ≡ false) → kept_to r ≡ kept_to j
  to_skip j r l h fails = to_stays j r l h (λ k a b. kept_fails test better (kept_to j) (f k) (fails k a b))

  -- one place more
  pub to_one : (j : ℕ) → i ≤ j → kept_to (j + 1) ≡ kept test better (kept_to j) (f j)
  unfolding count_up
  to_one j l =
      let e : j + 1 - j ≡ 1 = omega arith in
      to-more j (j + 1) l (omega arith)
      ∙ ap (λ (k : ℕ). keep_least test better (kept_to j) (map f (count_up j k))) e
      ∙ least-one test better (kept_to j) (f j)

-- the first n of a list, by their places
pub take_places : {A : Type 0} (f : ℕ → A) (l : List ℕ) (n : ℕ) → n ≤ length l → map f (take n l) ≡ map (λ (k : ℕ). f (get_or l k 0)) (count_up 0 n)
take_places f l n h =
    let at : ℕ → ℕ = λ k. get_or l k 0 in
    let long = length-take-le n l h in
    let many = length-map (count_up 0 n) at ∙ length-count 0 n in
    ap (map f)
    (ext_get_or 0 (take n l) (map at (count_up 0 n)) (long ∙ sym many) (λ k b.
    let small : k < n = omega (arith, long) in
    get_or-take n l k 0 small
    ∙ ap at (sym (get_or-count 0 n k 0 small ∙ zero_plus k))
    ∙ sym (get_d_map at (count_up 0 n) k 0 0 (omega (arith, length-count 0 n)))))
    ∙ map-map f at (count_up 0 n)
  where
    zero_plus : (k : ℕ) → 0 + k ≡ k
    zero_plus k = omega arith

-- ---- the least is shown: no other is
-- of two elements in one list one is the other, or stands before it
head_or : {A : Type 0} → A → List A → A
head_or d [] = d
head_or d (x ∷ l) = x

tail_of : {A : Type 0} → List A → List A
tail_of [] = []
tail_of (x ∷ l) = l

split_two : {A : Type 0} (xs ys ls ms : List A) (x y : A) → xs ++ (x ∷ ls) ≡ ys ++ (y ∷ ms) → (x ≡ y) ⊎ (In x ys ⊎ In y xs)
unfolding head_or tail_of
split_two [] [] ls ms x y e = inl (ap (head_or x) e)
split_two [] (v ∷ ys) ls ms x y e = inr (inl (inl (ap (head_or x) e)))
split_two (u ∷ xs) [] ls ms x y e = inr (inr (inl (sym (ap (head_or y) e))))
split_two (u ∷ xs) (v ∷ ys) ls ms x y e = elim (split_two xs ys ls ms x y (ap tail_of e)) [
  | inl q ↦ inl q
  | inr (inl i) ↦ inr (inl (inr i))
  | inr (inr i) ↦ inr (inr (inr i))
]

module _ {A : Type 0} (test : A → Bool) (better : A → A → Bool) (ranks : Ranks better) where
  pub least-is : (l : List A) (x : A) → IsLeast test better l x → least_that test better l ≡ some x
  least-is l x least = go (least_that test better l) refl
    where
      place : (y : A) → IsLeast test better l y → In y l
      place y other = subst (In y) (sym other.stands) (in_right y other.earlier (y ∷ other.later) (inl refl))

      go : (o : Option A) → least_that test better l ≡ o → o ≡ some x
      go none e = absurd (false_true (sym (least-none test better l e x (place x least)) ∙ least.passes))
      go (some y) e =
          let other = is-least test better ranks l y e in
          elim (split_two least.earlier other.earlier least.later other.later x y (sym least.stands ∙ other.stands)) [
            | inl q ↦ ap (λ (u : A). some u) (sym q)
            | inr (inl i) ↦ absurd (false_true (sym (none_better test better ranks l x y least (place y other) other.passes) ∙ other.dearer x i least.passes))
            | inr (inr i) ↦ absurd (false_true (sym (none_better test better ranks l y x other (place x least) least.passes) ∙ least.dearer y i other.passes))
          ]
