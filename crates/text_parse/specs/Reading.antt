-- Where a reading stands, and what its end says. Assumes nothing.
use Rattle.std.specs.Prelude.{◌≡◌, ℕ, ◌<◌, ◌≤◌, Bool, true, false, List, [], ◌++◌, length, slice_index, Some, None}
use Rattle.std.specs.declared.option.Option as Answer
use Rattle.std.proofs.Math.Option.{Option, none, some}
use Rattle.text_parse.specs.declared.Parse.{Parse}
use Rattle.text_parse.specs.Text.{all_digits, value_of, numbers_of, words_of, words_after, read_text}

-- how many numbers are kept: 19 + 16 × 6, as many as a text of six variables has
abbrev pub kept : ℕ
kept = 115

-- the kept numbers are the first of ns, and zeros after them
pub record Keeps (numbers ns : List ℕ) : Type 0 where
  pub room : length numbers ≡ kept
  pub is : (i : ℕ) → i < kept → i < length ns → slice_index numbers i ≡ slice_index ns i
  pub rest : (i : ℕ) → length ns ≤ i → slice_index numbers i ≡ 0

-- the numbers done and then those of the rest, none if the rest has none
unfoldable pub ahead : List ℕ → Option (List ℕ) → Option (List ℕ)
ahead done none = none
ahead done (some ns) = some (done ++ ns)

-- what isn't spoilt: the numbers `done` are read, and the rest of the text begins in `word`
pub record Midway (p : Parse) (text : List ℕ) : Type 0 where
  pub done : List ℕ
  pub word : List ℕ
  pub few : length done ≤ length text
  pub count : p.count ≡ length done
  pub keeps : Keeps p.numbers done
  pub digits : all_digits word ≡ true
  pub value : p.value ≡ value_of word
  pub begun : p.within ≡ true → 0 < length word
  pub between : p.within ≡ false → word ≡ []
  -- whatever follows, the whole text's numbers are those done and those of the rest
  pub splits : (rest : List ℕ) → numbers_of (words_of (text ++ rest)) ≡ ahead done (numbers_of (words_after word rest))

-- p is the state after the text; where it is spoilt, no text that begins so has numbers
pub record Reads (p : Parse) (text : List ℕ) : Type 0 where
  pub midway : p.spoilt ≡ false → Midway p text
  pub spoilt : p.spoilt ≡ true → (rest : List ℕ) → numbers_of (words_of (text ++ rest)) ≡ none

-- the numbers of a text that 9 doesn't turn back, under the rule of how many there are
pub record Given (right : List ℕ → Bool) (numbers text : List ℕ) : Type 0 where
  pub ns : List ℕ
  pub is : read_text right text ≡ some ns
  pub keeps : Keeps numbers ns

-- what the end of a text says: its numbers, none where 9 turns it back
pub record Ends (right : List ℕ → Bool) (r : Answer.Option (List ℕ)) (text : List ℕ) : Type 0 where
  pub given : (numbers : List ℕ) → r ≡ Some numbers → Given right numbers text
  pub refused : r ≡ None → read_text right text ≡ none
