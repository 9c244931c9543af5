-- Laws of sums, of a word by its bits, and of the marks that a state has. Assumes nothing.
use Rattle.std.proofs.Common.{◌≡◌, ℕ, zero, suc, ◌+◌, ◌-◌, ◌*◌, ◌/◌, ◌%◌, ◌^◌, ◌<◌, ◌≤◌, Bool, cond, leb, sym, refl, ap, ◌∙◌, subst, ap₂, mul-le-mul_right, mod-lt, mod-eq_of_lt, mul_assoc, add_comm, pow-suc, mul-one, div-one, arith, pow_pos, shr-shr, le-ltb, lt-ltb}
use native.Mathlib.Nat.{mod-one}
use native.Mathlib.Decide.{dec_lt}
use lib.Arith.{digits_mod}
use lib.Count.{ones, ones_cat, ones-le}
use lib.Pow.{mod-pow-add}
use Rattle.rule_run.specs.Window.{nonzero, sum_below, ago, answer_to, state_after}
use Rattle.arith.specs.Word.{bit_of}
use Rattle.arith.proofs.Bits.{bit_low}

-- ---- sums
pub sum_same : (n : ℕ) (f g : ℕ → ℕ) → ((i : ℕ) → i < n → f i ≡ g i) → sum_below n f ≡ sum_below n g
unfolding sum_below
sum_same zero f g h = refl
sum_same (suc n) f g h = ap₂ (λ (x y : ℕ). x + y) (sum_same n f g (λ i l. h i (omega arith))) (h n (omega arith))

-- the first apart
pub sum_first : (n : ℕ) (f : ℕ → ℕ) → sum_below (suc n) f ≡ f 0 + sum_below n (λ (i : ℕ). f (suc i))
unfolding sum_below
sum_first zero f = omega arith
sum_first (suc n) f = let e = sum_first n f in omega arith

-- ---- a word by its bits
abbrev pub Bits : (ℕ → ℕ) → Type 0
Bits b = (i : ℕ) → b i ≤ 1

abbrev pub word_of : ℕ → (ℕ → ℕ) → ℕ
word_of n b = sum_below n (λ (i : ℕ). b i * 2 ^ i)

word_lt : (n : ℕ) (b : ℕ → ℕ) → Bits b → word_of n b < 2 ^ n
unfolding sum_below
word_lt zero b h = omega arith
word_lt (suc n) b h =
    let low = word_lt n b h in
    let top : b n * 2 ^ n ≤ 1 * 2 ^ n = mul-le-mul_right (2 ^ n) (h n) in
    omega (arith, pow-suc 2 n)

-- the bits of s, as many as n, are s modulo 2^n
word_own : (n s : ℕ) → word_of n (bit_of s) ≡ s % 2 ^ n
unfolding sum_below
word_own zero s = sym (mod-one s)
word_own (suc n) s =
    let e = word_own n s in
    let p : s % 2 ^ (1 + n) ≡ s / 2 ^ n % 2 ^ 1 * 2 ^ n + s % 2 ^ n = mod-pow-add s 1 n in
    let q : 1 + n ≡ suc n = omega arith in
    ap (λ (x : ℕ). x + bit_of s n * 2 ^ n) e ∙ add_comm (s % 2 ^ n) (bit_of s n * 2 ^ n) ∙ sym p ∙ ap (λ (k : ℕ). s % 2 ^ k) q

-- one bit more at the low end
doubled : (x n : ℕ) → x * 2 ^ suc n ≡ x * 2 ^ n + x * 2 ^ n
doubled x n = ap (λ (y : ℕ). x * y) (pow-suc 2 n) ∙ sym (mul_assoc x (2 ^ n) 2) ∙ omega arith

twice : (n : ℕ) (b : ℕ → ℕ) → sum_below n (λ (i : ℕ). b i * 2 ^ suc i) ≡ word_of n b + word_of n b
unfolding sum_below
twice zero b = refl
twice (suc n) b = let e = twice n b in let q = doubled (b n) n in omega arith

word_more : (n : ℕ) (b c : ℕ → ℕ) → ((i : ℕ) → c (suc i) ≡ b i) → word_of (suc n) c ≡ c 0 + (word_of n b + word_of n b)
word_more n b c e =
    sum_first n (λ (i : ℕ). c i * 2 ^ i)
    ∙ ap₂ (λ (x y : ℕ). x + y) (mul-one (c 0)) (sum_same n (λ (i : ℕ). c (suc i) * 2 ^ suc i) (λ (i : ℕ). b i * 2 ^ suc i) (λ i h. ap (λ (x : ℕ). x * 2 ^ suc i) (e i)) ∙ twice n b)

-- of n + 1 bits the oldest is gone
halves : (n : ℕ) (b c : ℕ → ℕ) → ((i : ℕ) → c (suc i) ≡ b i) → word_of (suc n) b + word_of (suc n) b + c 0 ≡ b n * 2 ^ suc n + word_of (suc n) c
unfolding sum_below
halves n b c e = let q = doubled (b n) n in let m = word_more n b c e in omega arith

pub word-step : (n : ℕ) (b c : ℕ → ℕ) → Bits c → ((i : ℕ) → c (suc i) ≡ b i) → (word_of (suc n) b + word_of (suc n) b + c 0) % 2 ^ suc n ≡ word_of (suc n) c
word-step n b c h e = ap (λ (x : ℕ). x % 2 ^ suc n) (halves n b c e) ∙ digits_mod (b n) (word_lt (suc n) c h)

-- bit j of a word is the one that it was made of
pub bit_word : (n : ℕ) (b : ℕ → ℕ) → Bits b → (j : ℕ) → j < n → bit_of (word_of n b) j ≡ b j
bit_word zero b h j l = absurd (omega arith)
bit_word (suc n) b h zero l =
    let e = word_more n (λ (i : ℕ). b (suc i)) b (λ i. refl) in
    let low = h 0 in
    let q : word_of (suc n) b / 2 ^ 0 ≡ word_of (suc n) b = div-one (word_of (suc n) b) in
    ap (λ (x : ℕ). x % 2) (q ∙ e) ∙ omega arith
bit_word (suc n) b h (suc j) l =
    let e = word_more n (λ (i : ℕ). b (suc i)) b (λ i. refl) in
    let low = h 0 in
    let half : word_of (suc n) b / 2 ≡ word_of n (λ (i : ℕ). b (suc i)) = ap (λ (x : ℕ). x / 2) e ∙ omega arith in
    let q : 1 + j ≡ suc j = omega arith in
    ap (λ (k : ℕ). word_of (suc n) b / 2 ^ k % 2) (sym q)
    ∙ ap (λ (x : ℕ). x % 2) (sym (shr-shr (word_of (suc n) b) 1 j))
    ∙ ap (λ (x : ℕ). x / 2 ^ j % 2) half
    ∙ bit_word n (λ (i : ℕ). b (suc i)) (λ i. h (suc i)) j (omega arith)

-- the lowest n bits, counted
one_bit : (b : ℕ) → b ≤ 1 → ones b ≡ b
unfolding ones
one_bit zero h = refl
one_bit (suc zero) h = refl
one_bit (suc (suc b)) h = absurd (omega arith)

pub ones_sum : (n x : ℕ) → ones (x % 2 ^ n) ≡ sum_below n (bit_of x)
unfolding sum_below
ones_sum zero x = ap ones (mod-one x) ∙ one_bit 0 (omega arith)
ones_sum (suc n) x =
    let p : x % 2 ^ (1 + n) ≡ x / 2 ^ n % 2 ^ 1 * 2 ^ n + x % 2 ^ n = mod-pow-add x 1 n in
    let q : suc n ≡ 1 + n = omega arith in
    ap (λ (k : ℕ). ones (x % 2 ^ k)) q
    ∙ ap ones p
    ∙ ones_cat n (bit_of x n) (x % 2 ^ n) (mod-lt x (pow_pos n))
    ∙ ap₂ (λ (a c : ℕ). a + c) (one_bit (bit_of x n) (bit_low x n)) (ones_sum n x)
    ∙ add_comm (bit_of x n) (sum_below n (bit_of x))

pub ones_few : (n x : ℕ) → n ≤ 64 → ones (x % 2 ^ n) ≤ 64
ones_few n x h = let l = ones-le n (x % 2 ^ n) (mod-lt x (pow_pos n)) in omega arith

-- ---- marks
pub mark-low : (v : ℕ) → nonzero v ≤ 1
mark-low zero = omega arith
mark-low (suc v) = omega arith

module _ (mark : ℕ → ℕ) (s : ℕ) where
  pub ago_here : (n i : ℕ) → i < n → ago mark s n i ≡ mark (n - 1 - i)
  unfolding ago
  ago_here n i h = ap (λ (b : Bool). cond b (mark (n - 1 - i)) (bit_of s (i - n))) (lt-ltb i n h)

  pub ago-before : (n i : ℕ) → n ≤ i → ago mark s n i ≡ bit_of s (i - n)
  unfolding ago
  ago-before n i h = ap (λ (b : Bool). cond b (mark (n - 1 - i)) (bit_of s (i - n))) (le-ltb i n h)

  pub ago_cases : (n i : ℕ) (P : ℕ → Type 0) → (i < n → P (mark (n - 1 - i))) → (n ≤ i → P (bit_of s (i - n))) → P (ago mark s n i)
  ago_cases n i P yes-in no-in = elim (dec_lt i n) [ yes h ↦ subst P (sym (ago_here n i h)) (yes-in h) | no h ↦ subst P (sym (ago-before n i (omega arith))) (no-in (omega arith)) ]

  -- the last of n + 1, and those before it
  pub ago-last : (n : ℕ) → ago mark s (suc n) 0 ≡ mark n
  ago-last n = ago_here (suc n) 0 (omega arith) ∙ ap mark (omega arith)

  pub ago-earlier : (n i : ℕ) → ago mark s (suc n) (suc i) ≡ ago mark s n i
  ago-earlier n i =
      ago_cases n i (λ (x : ℕ). ago mark s (suc n) (suc i) ≡ x)
      (λ h. ago_here (suc n) (suc i) (omega arith) ∙ ap mark (omega arith))
      (λ h. ago-before (suc n) (suc i) (omega arith) ∙ ap (bit_of s) (omega arith))

  module _ (low : Bits mark) where
    pub ago-low : (n : ℕ) → Bits (ago mark s n)
    ago-low n i = ago_cases n i (λ (x : ℕ). x ≤ 1) (λ h. low (n - 1 - i)) (λ h. bit_low s (i - n))

    -- the state has the marks of the last 64 records
    pub state_bit : (n i : ℕ) → i < 64 → bit_of (state_after mark s n) i ≡ ago mark s n i
    unfolding state_after
    state_bit n i h = bit_word 64 (ago mark s n) (ago-low n) i h

    pub state_lt : (n : ℕ) → state_after mark s n < 2 ^ 64
    unfolding state_after
    state_lt n = word_lt 64 (ago mark s n) (ago-low n)

    pub state-more : (n : ℕ) → state_after mark s (suc n) ≡ (state_after mark s n + state_after mark s n + mark n) % 2 ^ 64
    unfolding state_after
    state-more n =
        sym (word-step 63 (ago mark s n) (ago mark s (suc n)) (ago-low (suc n)) (ago-earlier n))
        ∙ ap (λ (x : ℕ). (word_of 64 (ago mark s n) + word_of 64 (ago mark s n) + x) % 2 ^ 64) (ago-last n)

    -- the answer to the next record, from the state
    pub answer-more : (m window n : ℕ) → 1 ≤ window → window ≤ 64
        → answer_to mark s m window (suc n) ≡ cond (leb m (sum_below (window - 1) (bit_of (state_after mark s n)) + mark n)) 1 0
    unfolding answer_to
    answer-more m window n h l =
        let q : window ≡ suc (window - 1) = omega arith in
        ap (λ (x : ℕ). cond (leb m x) 1 0)
        (ap (λ (k : ℕ). sum_below k (ago mark s (suc n))) q
        ∙ sum_first (window - 1) (ago mark s (suc n))
        ∙ ap₂ (λ (x y : ℕ). x + y) (ago-last n)
        (sum_same (window - 1) (λ (i : ℕ). ago mark s (suc n) (suc i)) (bit_of (state_after mark s n)) (λ i b. ago-earlier n i ∙ sym (state_bit n i (omega arith))))
        ∙ add_comm (mark n) (sum_below (window - 1) (bit_of (state_after mark s n))))

  -- before the first record it is the state handed in
  pub state-none : s < 2 ^ 64 → state_after mark s 0 ≡ s
  unfolding state_after
  state-none h =
      sum_same 64 (λ (i : ℕ). ago mark s 0 i * 2 ^ i) (λ (i : ℕ). bit_of s i * 2 ^ i)
      (λ i l. ap (λ (x : ℕ). x * 2 ^ i) (ago-before 0 i (omega arith) ∙ ap (bit_of s) (omega arith)))
      ∙ word_own 64 s
      ∙ mod-eq_of_lt h
