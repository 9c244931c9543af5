-- Laws of the eight digits that the lanes of a word have, for the digits that are written eight at a time. Assumes nothing.
use mathlib.Core.Path.{◌≡◌, sym, ap, ap₂, ◌∙◌}
use mathlib.Core.List.{List, [], ◌∷◌, ◌++◌}
use Prim.Native.Nat.{ℕ, ◌+◌, ◌-◌, ◌*◌, ◌/◌, ◌%◌, ◌^◌, ◌≤◌, ◌<◌}
use native.Mathlib.Omega.{arith}
use Rattle.text_print.specs.Printing.{two_of, four_of, eight_of, lanes, bytes_of, Tenths}

-- 103 / 1024 of a number below 100 is its tenth, and a part of 1024 that the next lane doesn't notice: from the lowest lane up
tenth_first : (a k : ℕ) → a < 100 → (a + 65536 * k) * 103 / 1024 ≡ a / 10 + 6592 * k
tenth_first a k h = omega arith

tenth_next : (e b k : ℕ) → e < 10 → b < 100 → (e + 6592 * (b + 65536 * k)) / 65536 ≡ b / 10 + 6592 * k
tenth_next e b k h f = omega arith

tenth_here : (e k : ℕ) → e < 10 → (e + 6592 * k) % 16 ≡ e
tenth_here e k h = omega arith

below_16 : (e : ℕ) → e < 10 → e % 16 ≡ e
below_16 e h = omega arith

-- past two lanes, and past three
lanes_2 : (n : ℕ) → n / 65536 / 65536 ≡ n / 4294967296
lanes_2 n = omega arith

lanes_3 : (n : ℕ) → n / 65536 / 65536 / 65536 ≡ n / 281474976710656
lanes_3 n = omega arith

module _ (a b c d : ℕ) (ha : a < 100) (hb : b < 100) (hc : c < 100) (hd : d < 100) (n : ℕ) (is : n ≡ a / 10 + 6592 * (b + 65536 * (c + 65536 * d))) where
  second : n / 65536 ≡ b / 10 + 6592 * (c + 65536 * d)
  second = ap (λ (m : ℕ). m / 65536) is ∙ tenth_next (a / 10) b (c + 65536 * d) (omega arith) hb

  third : n / 65536 / 65536 ≡ c / 10 + 6592 * d
  third = ap (λ (m : ℕ). m / 65536) second ∙ tenth_next (b / 10) c d (omega arith) hc

  fourth : n / 65536 / 65536 / 65536 ≡ d / 10
  fourth =
      let e : c / 10 + 6592 * d ≡ c / 10 + 6592 * (d + 65536 * 0) = omega arith in
      ap (λ (m : ℕ). m / 65536) (third ∙ e) ∙ tenth_next (c / 10) d 0 (omega arith) hd ∙ omega arith

  by_lanes : lanes (n % 16) (n / 65536 % 16) (n / 4294967296 % 16) (n / 281474976710656 % 16) ≡ lanes (a / 10) (b / 10) (c / 10) (d / 10)
  by_lanes =
      let p : n % 16 ≡ a / 10 = ap (λ (m : ℕ). m % 16) is ∙ tenth_here (a / 10) (b + 65536 * (c + 65536 * d)) (omega arith) in
      let q : n / 65536 % 16 ≡ b / 10 = ap (λ (m : ℕ). m % 16) second ∙ tenth_here (b / 10) (c + 65536 * d) (omega arith) in
      let r : n / 4294967296 % 16 ≡ c / 10 = ap (λ (m : ℕ). m % 16) (sym (lanes_2 n) ∙ third) ∙ tenth_here (c / 10) d (omega arith) in
      let s : n / 281474976710656 % 16 ≡ d / 10 = ap (λ (m : ℕ). m % 16) (sym (lanes_3 n) ∙ fourth) ∙ below_16 (d / 10) (omega arith) in
      rw (p, q, r, s)

pub tenths : (v : ℕ) → Tenths v (lanes (v * 103 / 1024 % 16) (v * 103 / 1024 / 65536 % 16) (v * 103 / 1024 / 4294967296 % 16) (v * 103 / 1024 / 281474976710656 % 16))
tenths v = record {
  are = λ a b c d ha hb hc hd e.
      let f : v ≡ a + 65536 * (b + 65536 * (c + 65536 * d)) = omega (arith, e) in
      by_lanes a b c d ha hb hc hd (v * 103 / 1024) (ap (λ (m : ℕ). m * 103 / 1024) f ∙ tenth_first a (b + 65536 * (c + 65536 * d)) ha);
}

-- the pairs of two numbers below 10^4
abbrev pub pairs_of : ℕ → ℕ → ℕ
pairs_of high low =
    high / 100 + 4294967296 * (low / 100) + 65536 * (high + 4294967296 * low - 100 * (high / 100 + 4294967296 * (low / 100)))

pairs-are : (high low : ℕ) → pairs_of high low ≡ lanes (high / 100) (high % 100) (low / 100) (low % 100)
pairs-are high low =
    let e : high ≡ 100 * (high / 100) + high % 100 = omega arith in
    let f : low ≡ 100 * (low / 100) + low % 100 = omega arith in
    omega (arith, e, f)

below : (a b c d : ℕ) → a < 100 → b < 100 → c < 100 → d < 100 → lanes a b c d < 2 ^ 55
below a b c d ha hb hc hd = omega arith

pub pairs_below : (high low : ℕ) → high < 10000 → low < 10000 → pairs_of high low < 2 ^ 55
pairs_below high low h f =
    rw (pairs-are high low) (below (high / 100) (high % 100) (low / 100) (low % 100) (omega arith) (omega arith) (omega arith) (omega arith))

-- a lane's two bytes from its pair and the tenth of it
lane : (a : ℕ) → 256 * a + 12336 ≡ bytes_of a + 2559 * (a / 10)
lane a = omega arith

joined : (a b c d a' b' c' d' r s t u : ℕ) → 256 * a + 12336 ≡ r + 2559 * a' → 256 * b + 12336 ≡ s + 2559 * b' → 256 * c + 12336 ≡ t + 2559 * c' → 256 * d + 12336 ≡ u + 2559 * d'
    → 256 * lanes a b c d + 3472328296227680304 ≡ lanes r s t u + 2559 * lanes a' b' c' d'
joined a b c d a' b' c' d' r s t u e f g h = omega (arith, e, f, g, h)

lanes-are : (a b c d : ℕ) → 256 * lanes a b c d + 3472328296227680304 ≡ lanes (bytes_of a) (bytes_of b) (bytes_of c) (bytes_of d) + 2559 * lanes (a / 10) (b / 10) (c / 10) (d / 10)
lanes-are a b c d = joined a b c d (a / 10) (b / 10) (c / 10) (d / 10) (bytes_of a) (bytes_of b) (bytes_of c) (bytes_of d) (lane a) (lane b) (lane c) (lane d)

-- the digits of both numbers
abbrev pub digits_in : ℕ → ℕ → ℕ
digits_in high low = lanes (bytes_of (high / 100)) (bytes_of (high % 100)) (bytes_of (low / 100)) (bytes_of (low % 100))

digits_are : (high low t : ℕ) → high < 10000 → low < 10000 → Tenths (pairs_of high low) t → 256 * pairs_of high low + 3472328296227680304 ≡ digits_in high low + 2559 * t
digits_are high low t h f tens =
    let e = pairs-are high low in
    let g = tens.are (high / 100) (high % 100) (low / 100) (low % 100) (omega arith) (omega arith) (omega arith) (omega arith) e in
    ap (λ (n : ℕ). 256 * n + 3472328296227680304) e
    ∙ lanes-are (high / 100) (high % 100) (low / 100) (low % 100)
    ∙ ap (λ (n : ℕ). digits_in high low + 2559 * n) (sym g)

-- a sum, and what is left of it
taken : (n t d : ℕ) → n ≡ d + 2559 * t → (2559 * t ≤ n) × (n - 2559 * t ≡ d)
taken n t d e = (omega (arith, e), omega (arith, e))

pub digits-left : (high low t : ℕ) → high < 10000 → low < 10000 → Tenths (pairs_of high low) t
    → (2559 * t ≤ 256 * pairs_of high low + 3472328296227680304) × (256 * pairs_of high low + 3472328296227680304 - 2559 * t ≡ digits_in high low)
digits-left high low t h f tens = taken (256 * pairs_of high low + 3472328296227680304) t (digits_in high low) (digits_are high low t h f tens)

-- and it is below 2^64
fits_of : (p t : ℕ) → p < 2 ^ 55 → 2559 * t ≤ 256 * p + 3472328296227680304 → 2559 * t < 2 ^ 64
fits_of p t h f = omega arith

pub digits-fit : (high low t : ℕ) → high < 10000 → low < 10000 → Tenths (pairs_of high low) t → 2559 * t < 2 ^ 64
digits-fit high low t h f tens = fits_of (pairs_of high low) t (pairs_below high low h f) (digits-left high low t h f tens).0

-- what the lanes of a word are
module _ (a b c d : ℕ) (ha : a < 65536) (hb : b < 65536) (hc : c < 65536) (hd : d < 65536) where
  lane_0 : lanes a b c d % 65536 ≡ a
  lane_0 = omega arith

  lane_1 : lanes a b c d / 65536 % 65536 ≡ b
  lane_1 = omega arith

  lane_2 : lanes a b c d / 4294967296 % 65536 ≡ c
  lane_2 = omega arith

  lane_3 : lanes a b c d / 281474976710656 ≡ d
  lane_3 = omega arith

two-fit : (a : ℕ) → a < 100 → bytes_of a < 65536
two-fit a h = omega arith

two_bytes : (a n : ℕ) → a < 100 → n ≡ bytes_of a → (n % 256) ∷ (n / 256) ∷ [] ≡ two_of a
unfolding two_of
two_bytes a n h e =
    let tens : n % 256 ≡ 48 + a / 10 = omega (arith, e) in
    let ones : n / 256 ≡ 48 + a % 10 = omega (arith, e) in
    rw (tens, ones)

-- the two bytes of each lane, where the lanes have the bytes of pairs
module _ (a b c d w : ℕ) (ha : a < 100) (hb : b < 100) (hc : c < 100) (hd : d < 100) (is : w ≡ lanes (bytes_of a) (bytes_of b) (bytes_of c) (bytes_of d)) where
  bytes_0 : (w % 65536 % 256) ∷ (w % 65536 / 256) ∷ [] ≡ two_of a
  bytes_0 = two_bytes a (w % 65536) ha (ap (λ (n : ℕ). n % 65536) is ∙ lane_0 (bytes_of a) (bytes_of b) (bytes_of c) (bytes_of d) (two-fit a ha) (two-fit b hb) (two-fit c hc) (two-fit d hd))

  bytes_1 : (w / 65536 % 65536 % 256) ∷ (w / 65536 % 65536 / 256) ∷ [] ≡ two_of b
  bytes_1 = two_bytes b (w / 65536 % 65536) hb (ap (λ (n : ℕ). n / 65536 % 65536) is ∙ lane_1 (bytes_of a) (bytes_of b) (bytes_of c) (bytes_of d) (two-fit a ha) (two-fit b hb) (two-fit c hc) (two-fit d hd))

  bytes_2 : (w / 4294967296 % 65536 % 256) ∷ (w / 4294967296 % 65536 / 256) ∷ [] ≡ two_of c
  bytes_2 = two_bytes c (w / 4294967296 % 65536) hc (ap (λ (n : ℕ). n / 4294967296 % 65536) is ∙ lane_2 (bytes_of a) (bytes_of b) (bytes_of c) (bytes_of d) (two-fit a ha) (two-fit b hb) (two-fit c hc) (two-fit d hd))

  bytes_3 : (w / 281474976710656 % 256) ∷ (w / 281474976710656 / 256) ∷ [] ≡ two_of d
  bytes_3 = two_bytes d (w / 281474976710656) hd (ap (λ (n : ℕ). n / 281474976710656) is ∙ lane_3 (bytes_of a) (bytes_of b) (bytes_of c) (bytes_of d) (two-fit a ha) (two-fit b hb) (two-fit c hc) (two-fit d hd))

abbrev pair_text : ℕ → List ℕ
pair_text n = (n % 256) ∷ (n / 256) ∷ []

eighth : (a b c d w : ℕ) → a < 100 → b < 100 → c < 100 → d < 100 → w ≡ lanes (bytes_of a) (bytes_of b) (bytes_of c) (bytes_of d)
    → (pair_text (w % 65536) ++ pair_text (w / 65536 % 65536)) ++ (pair_text (w / 4294967296 % 65536) ++ pair_text (w / 281474976710656)) ≡ (two_of a ++ two_of b) ++ (two_of c ++ two_of d)
eighth a b c d w ha hb hc hd e =
    ap₂ (λ (l m : List ℕ). l ++ m) (ap₂ (λ (l m : List ℕ). l ++ m) (bytes_0 a b c d w ha hb hc hd e) (bytes_1 a b c d w ha hb hc hd e)) (ap₂ (λ (l m : List ℕ). l ++ m) (bytes_2 a b c d w ha hb hc hd e) (bytes_3 a b c d w ha hb hc hd e))

high-below : (x : ℕ) → x < 100000000 → x / 10000 / 100 < 100
high-below x h = omega arith

low_below : (x : ℕ) → x % 10000 / 100 < 100
low_below x = omega arith

rest_below : (x : ℕ) → x % 100 < 100
rest_below x = omega arith

pub eight_is : (x w : ℕ) → x < 100000000 → w ≡ digits_in (x / 10000) (x % 10000)
    → (pair_text (w % 65536) ++ pair_text (w / 65536 % 65536)) ++ (pair_text (w / 4294967296 % 65536) ++ pair_text (w / 281474976710656)) ≡ eight_of x
unfolding eight_of four_of
eight_is x w h e = eighth (x / 10000 / 100) (x / 10000 % 100) (x % 10000 / 100) (x % 10000 % 100) w (high-below x h) (rest_below (x / 10000)) (low_below x) (rest_below (x % 10000)) e
