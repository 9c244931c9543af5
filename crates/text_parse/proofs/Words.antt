-- What one more byte does to the words of a text. Assumes nothing.
use Rattle.std.proofs.Common.{◌≡◌, ℕ, ◌+◌, ◌-◌, ◌*◌, ◌^◌, ◌<◌, Bool, true, false, cond, ◌&&◌, ltb, List, [], ◌∷◌, ◌++◌, length, sym, refl, ap, ◌∙◌, append_assoc, arith, ltb-false, le-ltb, lt-ltb}
use mathlib.Core.Bool.{and_assoc, and-true}
use mathlib.Core.Option.{Option, none, some}
use Rattle.text_parse.specs.Text.{is_parting, is_digit, all_digits, value_after, value_of, is_number, with_word, words_after, before, numbers_of}
use Rattle.text_parse.specs.Reading.{ahead}

-- ---- a word and one more byte
pub digits_snoc : (word : List ℕ) (b : ℕ) → all_digits (word ++ (b ∷ [])) ≡ (all_digits word && is_digit b)
unfolding all_digits
digits_snoc [] b = and-true (is_digit b)
digits_snoc (x ∷ word) b = ap (λ (t : Bool). is_digit x && t) (digits_snoc word b) ∙ sym (and_assoc (is_digit x) (all_digits word) (is_digit b))

value-after_snoc : (v : ℕ) (word : List ℕ) (b : ℕ) → value_after v (word ++ (b ∷ [])) ≡ value_after v word * 10 + (b - 48)
unfolding value_after
value-after_snoc v [] b = refl
value-after_snoc v (x ∷ word) b = value-after_snoc (v * 10 + (x - 48)) word b

pub value_snoc : (word : List ℕ) (b : ℕ) → value_of (word ++ (b ∷ [])) ≡ value_of word * 10 + (b - 48)
unfolding value_of
value_snoc word b = value-after_snoc 0 word b

-- ---- a word that is no number stays none, whatever bytes follow
stays : (t u : Bool) (v d : ℕ) → (t && ltb v (2 ^ 64)) ≡ false → ((t && u) && ltb (v * 10 + d) (2 ^ 64)) ≡ false
stays false u v d h = refl
stays true false v d h = refl
stays true true v d h = let big = ltb-false v (2 ^ 64) h in le-ltb (v * 10 + d) (2 ^ 64) (omega arith)

no_number_snoc : (word : List ℕ) (b : ℕ) → is_number word ≡ false → is_number (word ++ (b ∷ [])) ≡ false
unfolding is_number
no_number_snoc word b h = rw (digits_snoc word b, value_snoc word b) (stays (all_digits word) (is_digit b) (value_of word) (b - 48) h)

either : (t : Bool) (xs ys : List (List ℕ)) → numbers_of xs ≡ none → numbers_of ys ≡ none → numbers_of (cond t xs ys) ≡ none
either true xs ys p q = p
either false xs ys p q = q

none_with : (word : List ℕ) (words : List (List ℕ)) → is_number word ≡ false → numbers_of (with_word word words) ≡ none
unfolding numbers_of with_word is_number
none_with [] words h = absurd (let z : ◌≡◌ {A = ℕ} 0 1 = cc in omega arith)
none_with (x ∷ word) words h = rw h

-- so the text has no numbers
pub spoils : (rest word : List ℕ) → is_number word ≡ false → numbers_of (words_after word rest) ≡ none
unfolding words_after
spoils [] word h = none_with word [] h
spoils (b ∷ rest) word h =
    either (is_parting b) (with_word word (words_after [] rest)) (words_after (word ++ (b ∷ [])) rest)
    (none_with word (words_after [] rest) h)
    (spoils rest (word ++ (b ∷ [])) (no_number_snoc word b h))

-- ---- one byte of the rest
pub after_parting : (word : List ℕ) (b : ℕ) (rest : List ℕ) → is_parting b ≡ true → words_after word (b ∷ rest) ≡ with_word word (words_after [] rest)
unfolding words_after
after_parting word b rest h = rw h

pub after_other : (word : List ℕ) (b : ℕ) (rest : List ℕ) → is_parting b ≡ false → words_after word (b ∷ rest) ≡ words_after (word ++ (b ∷ [])) rest
unfolding words_after
after_other word b rest h = rw h

-- a number before others
pub numbers_of_lem : (word : List ℕ) (words : List (List ℕ)) → 0 < length word → all_digits word ≡ true → value_of word < 2 ^ 64 → numbers_of (with_word word words) ≡ before (value_of word) (numbers_of words)
unfolding numbers_of with_word is_number
numbers_of_lem [] words begun d h = absurd (omega arith)
numbers_of_lem (x ∷ word) words begun d h = rw (d, lt-ltb (value_of (x ∷ word)) (2 ^ 64) h)

pub ahead_before : (done : List ℕ) (n : ℕ) (rest : Option (List ℕ)) → ahead done (before n rest) ≡ ahead (done ++ (n ∷ [])) rest
unfolding ahead before
ahead_before done n none = refl
ahead_before done n (some ns) = ap (λ (l : List ℕ). some l) (sym (append_assoc done (n ∷ []) ns))

-- ---- a parting byte at the end changes nothing
pub parted_end : (text word : List ℕ) (b : ℕ) → is_parting b ≡ true → words_after word (text ++ (b ∷ [])) ≡ words_after word text
unfolding words_after
parted_end [] word b h = rw h
parted_end (x ∷ text) word b h = rw (parted_end text [] b h, parted_end text (word ++ (x ∷ [])) b h)
