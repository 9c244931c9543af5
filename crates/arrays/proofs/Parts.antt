-- Laws of parts of s elements in a flat list, one set for every s. Assumes nothing.
use mathlib.Core.Path.{◌≡◌, sym, ap, ◌∙◌}
use mathlib.Core.Logic.{◌⊎◌, inl, inr}
use mathlib.Core.List.{List, [], ◌∷◌, ◌++◌, append_assoc, append-nil}
use Prim.Native.Nat.{ℕ, zero, suc, ◌+◌, ◌-◌, ◌*◌, ◌≤◌, ◌<◌}
use native.Mathlib.Nat.{mul-le-mul_left, mul-suc, mul-zero, mul_comm, mul_assoc, mul-add, zero-add, suc-add, add_comm, le-add_right}
use native.Mathlib.Numerals.{add-one}
use native.Mathlib.Omega.{arith}
use borrow.Rule.Slice.PartMut.{put_mid, Post-is}
use lib.ListN.{length, get_or, set, take, drop, length-take, length-drop, length-append}
use lib.Seq.{get_or-take, get_or-drop, take_all, take_at, drop_at, length-take-le, drop-drop, take-append-add, drop-append-add, take-add, take-take, take-nil, set_split, take-append-le}
use Rattle.arrays.specs.Parts.{part_at, put_part, encode}

-- ---- one part
pub length-part : (s : ℕ) (l : List ℕ) (k : ℕ) → s * k + s ≤ length l → length (part_at s l k) ≡ s
unfolding part_at
length-part s l k h = simp (length-take, length-drop) (omega arith)

-- a part before the n-th ends within n parts
pub part_within : (s k n : ℕ) → k < n → s * k + s ≤ s * n
part_within s k n h = rw mul-suc at (mul-le-mul_left {m = suc k} {n = n} s (omega arith))

pub get_d_part : (s : ℕ) (l : List ℕ) (k j : ℕ) → j < s → get_or (part_at s l k) j 0 ≡ get_or l (s * k + j) 0
unfolding part_at
get_d_part s l k j h = get_or-take s (drop (s * k) l) j 0 h ∙ get_or-drop (s * k) l j 0

-- from within the first of a list
drop-take : (a b : ℕ) (l : List ℕ) → drop a (take (a + b) l) ≡ take b (drop a l)
drop-take zero b l = ap (λ (n : ℕ). take n l) (zero-add b)
drop-take (suc a) b [] = ap (drop (suc a)) (take-nil (suc a + b)) ∙ sym (take-nil b)
drop-take (suc a) b (x ∷ l) = ap (λ (n : ℕ). drop (suc a) (take n (x ∷ l))) (suc-add a b) ∙ drop-take a b l

-- part j of the t parts that lie in a part of t times their size
pub part_part : (s t : ℕ) (l : List ℕ) (k j : ℕ) → j < t → part_at s (part_at (t * s) l k) j ≡ part_at s l (t * k + j)
unfolding part_at
part_part s t l k j h =
    let fits = part_within s j t h in
    let end : t * s ≡ s * j + (t * s - s * j) = omega (arith, mul_comm s t) in
    let at : t * s * k + s * j ≡ s * (t * k + j) = sym (mul-add s (t * k) j ∙ ap (λ (n : ℕ). n + s * j) (sym (mul_assoc s t k) ∙ ap (λ (n : ℕ). n * k) (mul_comm s t))) in
    ap (λ (n : ℕ). take s (drop (s * j) (take n (drop (t * s * k) l)))) end
    ∙ ap (take s) (drop-take (s * j) (t * s - s * j) (drop (t * s * k) l))
    ∙ take-take s (t * s - s * j) (drop (s * j) (drop (t * s * k) l)) (omega (arith, mul_comm s t))
    ∙ ap (take s) (drop-drop (s * j) (t * s * k) l ∙ ap (λ (n : ℕ). drop n l) at)

-- a list that is one part
pub part_whole : (s : ℕ) (l : List ℕ) → length l ≡ s → part_at s l 0 ≡ l
unfolding part_at
part_whole s l e = let none : s * 0 ≡ 0 = mul-zero s in rw none (take_all s l (omega arith))

-- what the loan of the part `&l[s * k..s * k + s]` holds
pub part_is : (s : ℕ) (l : List ℕ) (k : ℕ) → take (s * k + s - s * k) (drop (s * k) l) ≡ part_at s l k
unfolding part_at
part_is s l k = let e : s * k + s - s * k ≡ s = omega arith in rw e

-- what the loan of the part `&mut l[s * k..s * k + s]` leaves when it is back
pub put_is : (s : ℕ) (l : List ℕ) (k : ℕ) (xs : List ℕ) → put_mid (s * k) (s * k + s - s * k) l xs ≡ put_part s l k xs
unfolding put_part
put_is s l k xs = ap (λ (z : List ℕ). take (s * k) l ++ (xs ++ z)) (Post-is (s * k) (s * k + s) l (le-add_right (s * k) s))

-- one element stored is a part of one
pub put_one : (l : List ℕ) (k v : ℕ) → k < length l → set l k v ≡ put_part 1 l k (v ∷ [])
unfolding put_part
put_one l k v h = let e : 1 * k ≡ k = omega arith in rw (e, add-one) (set_split l k v h)

module _ (s : ℕ) (l : List ℕ) (k : ℕ) (xs : List ℕ) (fits : s * k + s ≤ length l) (long : length xs ≡ s) where
  front : length (take (s * k) l) ≡ s * k
  front = length-take-le (s * k) l (omega arith)

  pub length-put : length (put_part s l k xs) ≡ length l
  unfolding put_part
  length-put = simp (length-append, length-drop, front, long) (omega arith)

  -- the part just put
  pub part_put-same : part_at s (put_part s l k xs) k ≡ xs
  unfolding part_at put_part
  part_put-same = rw (drop_at (take (s * k) l) (xs ++ drop (s * k + s) l) (s * k) front) (take_at xs _ s long)

  -- the list up to it, and from its end on
  pub take_put : take (s * k) (put_part s l k xs) ≡ take (s * k) l
  unfolding put_part
  take_put = take_at (take (s * k) l) _ (s * k) front

  pub drop-put : drop (s * k + s) (put_part s l k xs) ≡ drop (s * k + s) l
  unfolding put_part
  drop-put =
      rw (← append_assoc (take (s * k) l) xs (drop (s * k + s) l))
      (drop_at (take (s * k) l ++ xs) (drop (s * k + s) l) (s * k + s) (simp (length-append, front, long)))

-- a part by what stands before the place n, or after it
part_front : (s : ℕ) (a : List ℕ) (t n : ℕ) → s * t + s ≤ n → n ≤ length a → part_at s a t ≡ drop (s * t) (take (s * t + s) (take n a))
unfolding part_at
part_front s a t n h k =
    rw (take-take (s * t + s) n a h, take-add (s * t) s a)
    (sym (drop_at (take (s * t) a) (take s (drop (s * t) a)) (s * t) (length-take-le (s * t) a (omega arith))))

part_back : (s : ℕ) (a : List ℕ) (t n : ℕ) → n ≤ s * t → part_at s a t ≡ take s (drop (s * t - n) (drop n a))
unfolding part_at
part_back s a t n h = let e : n + (s * t - n) ≡ s * t = omega arith in rw (drop-drop, e)

-- lists that begin alike have the same first parts
pub part_below : (s : ℕ) (a b : List ℕ) (n : ℕ) → s * n ≤ length a → s * n ≤ length b → take (s * n) a ≡ take (s * n) b → (t : ℕ) → t < n → part_at s a t ≡ part_at s b t
part_below s a b n la lb e t below =
    let h = part_within s t n below in
    part_front s a t (s * n) h la ∙ ap (λ (z : List ℕ). drop (s * t) (take (s * t + s) z)) e ∙ sym (part_front s b t (s * n) h lb)

-- the parts of a list of m, and those of a list after it
module _ (s : ℕ) (a : List ℕ) (m : ℕ) (long : length a ≡ s * m) where
  pub part_first : (b : List ℕ) (j : ℕ) → j < m → part_at s (a ++ b) j ≡ part_at s a j
  part_first b j h = part_below s (a ++ b) a m (omega (arith, length-append a b, long)) (omega (arith, long)) (take-append-le (s * m) a b (omega (arith, long))) j h

  pub part_later : (xs : List ℕ) (n : ℕ) → s * n ≤ length xs → (j : ℕ) → j < n → part_at s xs j ≡ part_at s (a ++ take (s * n) xs) (m + j)
  unfolding part_at
  part_later xs n h j l =
      let t = length-take-le (s * n) xs h in
      let at : s * (m + j) ≡ length a + s * j = omega (arith, mul-add s m j, long) in
      sym
      (ap (λ (k : ℕ). take s (drop k (a ++ take (s * n) xs))) at
      ∙ ap (take s) (drop-append-add a (take (s * n) xs) (s * j))
      ∙ part_below s (take (s * n) xs) xs n (omega (arith, t)) h (take-take (s * n) (s * n) xs (omega arith)) j l)

-- part j of parts a to a + b - 1, lent as a slice
pub part_from : (s : ℕ) (l : List ℕ) (a b : ℕ) → s * a + s * b ≤ length l → (j : ℕ) → j < b → part_at s (take (s * a + s * b - s * a) (drop (s * a) l)) j ≡ part_at s l (a + j)
unfolding part_at
part_from s l a b h j g =
    let size : s * a + s * b - s * a ≡ s * b = omega arith in
    let long : s * b ≤ length (drop (s * a) l) = omega (arith, length-drop (s * a) l) in
    ap (λ (k : ℕ). part_at s (take k (drop (s * a) l)) j) size
    ∙ part_below s (take (s * b) (drop (s * a) l)) (drop (s * a) l) b (omega (arith, length-take-le (s * b) (drop (s * a) l) long)) long (take-take (s * b) (s * b) (drop (s * a) l) (omega arith)) j g
    ∙ ap (take s) (drop-drop (s * j) (s * a) l ∙ ap (λ (k : ℕ). drop k l) (sym (mul-add s a j)))

-- every part but the one just put
pub part_put_other : (s : ℕ) (l : List ℕ) (k : ℕ) (xs : List ℕ) → s * k + s ≤ length l → length xs ≡ s → (t : ℕ) → (t < k) ⊎ (k < t) → part_at s (put_part s l k xs) t ≡ part_at s l t
part_put_other s l k xs fits long t (inl h) =
    part_below s (put_part s l k xs) l k (rw (length-put s l k xs fits long) (omega arith)) (omega arith) (take_put s l k xs fits long) t h
part_put_other s l k xs fits long t (inr h) =
    let m = part_within s k t h in
    part_back s (put_part s l k xs) t (s * k + s) m
    ∙ ap (λ (z : List ℕ). take s (drop (s * t - (s * k + s)) z)) (drop-put s l k xs fits long)
    ∙ sym (part_back s l t (s * k + s) m)

-- ---- a list of records laid out in parts: f gives a record's part, always of s elements
module _ {A : Type 0} (s : ℕ) (f : A → List ℕ) (wide : (a : A) → length (f a) ≡ s) where
  pub length-encode : (records : List A) → length (encode f records) ≡ s * length records
  unfolding encode
  length-encode [] = sym (mul-zero s)
  length-encode (a ∷ more) = length-append (f a) (encode f more) ∙ (rw (wide a, length-encode more, mul-suc) (add_comm s (s * length more)))

  pub encode_snoc : (records : List A) (a : A) → encode f (records ++ (a ∷ [])) ≡ encode f records ++ f a
  unfolding encode
  encode_snoc [] a = append-nil (f a)
  encode_snoc (x ∷ more) a = rw (encode_snoc more a) (sym (append_assoc (f x) (encode f more) (f a)))

  -- a place in the parts after the first
  past_one : (a : A) (k : ℕ) → s * suc k ≡ length (f a) + s * k
  past_one a k = rw (wide a, mul-suc) (add_comm (s * k) s)

  -- part k is record k
  pub encode_part : (records : List A) (rest : List ℕ) (d : A) (k : ℕ) → k < length records → part_at s (encode f records ++ rest) k ≡ f (get_or records k d)
  unfolding encode part_at
  encode_part [] rest d k h = absurd (omega arith)
  encode_part (a ∷ more) rest d zero h = rw (append_assoc, mul-zero) (take_at (f a) (encode f more ++ rest) s (wide a))
  encode_part (a ∷ more) rest d (suc k) h =
      rw (append_assoc (f a) (encode f more) rest, past_one a k, drop-append-add (f a) (encode f more ++ rest) (s * k))
      (encode_part more rest d k (omega arith))

  -- record k replaced
  pub encode-set : (records : List A) (rest : List ℕ) (k : ℕ) (b : A) → k < length records → put_part s (encode f records ++ rest) k (f b) ≡ encode f (set records k b) ++ rest
  unfolding encode put_part
  encode-set [] rest k b h = absurd (omega arith)
  encode-set (a ∷ more) rest zero b h =
      rw (append_assoc (f a) (encode f more) rest, append_assoc (f b) (encode f more) rest, mul-zero s, zero-add s, drop_at (f a) (encode f more ++ rest) s (wide a))
  encode-set (a ∷ more) rest (suc k) b h =
      let e : s * suc k + s ≡ length (f a) + (s * k + s) = rw (wide a, mul-suc) (omega arith) in
      rw (
        append_assoc (f a) (encode f more) rest,
        append_assoc (f a) (encode f (set more k b)) rest,
        ← (encode-set more rest k b (omega arith)),
        e,
        drop-append-add (f a) (encode f more ++ rest) (s * k + s),
        past_one a k,
        take-append-add (f a) (encode f more ++ rest) (s * k),
      )
      (append_assoc (f a) (take (s * k) (encode f more ++ rest)) _)

  -- a record added after the last
  pub encode-add : (records : List A) (old : List ℕ) (n : ℕ) (b : A) → n ≡ length records
      → put_part s (encode f records ++ drop (s * n) old) n (f b) ≡ encode f (records ++ (b ∷ [])) ++ drop (s * (n + 1)) old
  unfolding put_part
  encode-add records old n b e =
      rw (take_at (encode f records) (drop (s * n) old) (s * n) long, encode_snoc records b, append_assoc (encode f records) (f b) (drop (s * (n + 1)) old), next)
      (ap (λ (z : List ℕ). encode f records ++ (f b ++ z)) tail)
    where
      long : length (encode f records) ≡ s * n
      long = length-encode records ∙ ap (λ (m : ℕ). s * m) (sym e)

      next : s * (n + 1) ≡ s * n + s
      next = ap (λ (m : ℕ). s * m) (add-one n) ∙ mul-suc s n

      tail : drop (s * n + s) (encode f records ++ drop (s * n) old) ≡ drop (s * n + s) old
      tail =
          ap (λ (m : ℕ). drop (m + s) (encode f records ++ drop (s * n) old)) (sym long)
          ∙ drop-append-add (encode f records) (drop (s * n) old) s
          ∙ drop-drop s (s * n) old

-- a record replaced by one with the same part
pub encode_same : {A : Type 0} (f : A → List ℕ) (records : List A) (k : ℕ) (b d : A) → k < length records → f b ≡ f (get_or records k d) → encode f (set records k b) ≡ encode f records
unfolding encode
encode_same f [] k b d h e = absurd (omega arith)
encode_same f (a ∷ more) zero b d h e = ap (λ (z : List ℕ). z ++ encode f more) e
encode_same f (a ∷ more) (suc k) b d h e = ap (λ (z : List ℕ). f a ++ z) (encode_same f more k b d (omega arith) e)
