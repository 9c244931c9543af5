-- The numbers of a text, from the whole of it. A text is a list of bytes, of any length. Assumes nothing.
use Rattle.std.specs.Prelude.{ℕ, ◌+◌, ◌-◌, ◌*◌, ◌^◌, Bool, true, false, cond, ◌&&◌, ◌||◌, List, [], ◌∷◌, ◌++◌, length, ◌==◌, nat_le, nat_lt}
use Rattle.std.proofs.Math.Option.{Option, none, some}

-- 01, Turned back, 9: bytes 32, 10 or 13
abbrev pub is_parting : ℕ → Bool
is_parting b = b == 32 || (b == 10 || b == 13)

-- 01, Turned back, 9: decimals: bytes 48 to 57
abbrev pub is_digit : ℕ → Bool
is_digit b = nat_le 48 b && nat_le b 57

-- 01, Turned back, 9: parted by one or more bytes; 01, Listing program: parting bytes may also come first and last. So an empty word before other words is none
unfoldable pub with_word : List ℕ → List (List ℕ) → List (List ℕ)
with_word [] words = words
with_word (b ∷ word) words = (b ∷ word) ∷ words

-- the words of a text that is begun with `word`
unfoldable pub words_after : List ℕ → List ℕ → List (List ℕ)
unfolding with_word
words_after word [] = with_word word []
words_after word (b ∷ text) = cond (is_parting b) (with_word word (words_after [] text)) (words_after (word ++ (b ∷ [])) text)

-- what stands between parting bytes
unfoldable pub words_of : List ℕ → List (List ℕ)
unfolding words_after
words_of text = words_after [] text

-- whether each byte of a word is a digit
unfoldable pub all_digits : List ℕ → Bool
all_digits [] = true
all_digits (b ∷ word) = is_digit b && all_digits word

-- 01, Listing program: leading zeros are allowed. The value of digits, the most significant first, after those of v
unfoldable pub value_after : ℕ → List ℕ → ℕ
value_after v [] = v
value_after v (b ∷ word) = value_after (v * 10 + (b - 48)) word

-- the value of a word
unfoldable pub value_of : List ℕ → ℕ
unfolding value_after
value_of word = value_after 0 word

-- 01, Turned back, 9: unsigned decimals below 2^64
unfoldable pub is_number : List ℕ → Bool
unfolding all_digits value_of
is_number word = all_digits word && nat_lt (value_of word) (2 ^ 64)

-- a number before those of the other words, none if these have none
unfoldable pub before : ℕ → Option (List ℕ) → Option (List ℕ)
before n none = none
before n (some ns) = some (n ∷ ns)

-- the words as numbers, none if one of them isn't
unfoldable pub numbers_of : List (List ℕ) → Option (List ℕ)
unfolding is_number before
numbers_of [] = some []
numbers_of (word ∷ words) = cond (is_number word) (before (value_of word) (numbers_of words)) none

-- 01, Turned back, 9: exactly 19 + 16 × (first number) of them
unfoldable pub listing_many : List ℕ → Bool
listing_many [] = false
listing_many (n ∷ ns) = length (n ∷ ns) == 19 + 16 * n

-- 02, 2.2, Errors: 9 unless the program gets five such numbers
unfoldable pub load_many : List ℕ → Bool
load_many ns = length ns == 5

-- numbers that are right many, none of others
unfoldable pub if_many : (List ℕ → Bool) → Option (List ℕ) → Option (List ℕ)
if_many right none = none
if_many right (some ns) = cond (right ns) (some ns) none

-- 01, Turned back, 9: the numbers of a text that isn't turned back, none of one that is
unfoldable pub read_text : (List ℕ → Bool) → List ℕ → Option (List ℕ)
unfolding words_of numbers_of if_many
read_text right text = if_many right (numbers_of (words_of text))
