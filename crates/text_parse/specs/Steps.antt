-- What the steps of a reading say of the state. Assumes nothing.
use Rattle.std.specs.Prelude.{◌≡◌, ℕ, ◌+◌, ◌^◌, ◌<◌, Bool, true, false, cond, not, ◌||◌, List, [], ◌∷◌, ◌++◌, length, Some, None}
use Rattle.std.specs.declared.option.Option as Answer
use Rattle.std.proofs.Math.Option.{none, some}
use Rattle.text_parse.specs.declared.Parse.{Parse}
use Rattle.text_parse.specs.declared.Scan.{Scan}
use Rattle.text_parse.specs.Text.{is_parting, words_of, numbers_of}
use Rattle.text_parse.specs.Reading.{Keeps, Reads}

-- a state out of the numbers that are kept and the rest of it
abbrev pub joined : List ℕ → Scan → Parse
joined numbers s = record { numbers = numbers; count = s.count; value = s.value; within = s.within; spoilt = s.spoilt }

-- r is p after the byte b
abbrev pub Fed : Parse → ℕ → Parse → Type 0
Fed p b r = (text : List ℕ) → length text + 1 < 2 ^ 64 → Reads p text → Reads r (text ++ (b ∷ []))

-- whatever numbers are read, `value` as one more of them leaves `after` kept
abbrev pub Kept : List ℕ → ℕ → ℕ → List ℕ → Type 0
Kept numbers count value after = (done : List ℕ) → length done ≡ count → Keeps numbers done → Keeps after (done ++ (value ∷ []))

-- r is p, which isn't spoilt, after a parting byte
pub record Parted (p r : Parse) : Type 0 where
  pub between : r.within ≡ false
  pub clean : r.spoilt ≡ false
  pub reads : (b : ℕ) → is_parting b ≡ true → Fed p b r

-- q counts and keeps the numbers of a text
pub record Counts (q : Parse) (text : List ℕ) : Type 0 where
  pub ns : List ℕ
  pub is : numbers_of (words_of text) ≡ some ns
  pub count : q.count ≡ length ns
  pub keeps : Keeps q.numbers ns

-- q is p at the end of its text
pub record AtEnd (p q : Parse) : Type 0 where
  pub counts : q.spoilt ≡ false → (text : List ℕ) → length text + 1 < 2 ^ 64 → Reads p text → Counts q text
  pub spoilt : q.spoilt ≡ true → (text : List ℕ) → Reads p text → numbers_of (words_of text) ≡ none

-- what is answered of numbers that are right many, or aren't
abbrev pub answered : Parse → Bool → Answer.Option (List ℕ)
answered q right = cond (q.spoilt || not right) None (Some q.numbers)
