-- What the listing program writes of a text. Assumes nothing.
use Rattle.std.specs.Prelude.{◌≡◌, ◌||◌, List, map, ℕ, ◌+◌, ◌*◌, ◌^◌, ◌≤◌, ◌<◌, ltb, length, get_or, take, drop, Result}
use Rattle.arrays.specs.Lists.{count_up}
use Rattle.limits.specs.Refusal.{refuse, bad_count, bad_width, refused, answer, says}
use Rattle.limits.specs.declared.Refusal.{Refusal}
use Rattle.probe_points.specs.declared.Point.{Point}
use Rattle.bank_spec.specs.Push.{Atom}
use Rattle.bank_spec.specs.Bank.{bank_of}
use Rattle.bank_spec.specs.Encoding.{pad_to}
use Rattle.index_spec.specs.Index.{all_gates, index_of}
use Rattle.row_lent.specs.Range.{reaches}
use Rattle.bank.specs.Build.{points_reach}
use Rattle.text_parse.specs.declared.Parse.{Parse}
use Rattle.text_parse.specs.Text.{listing_many, read_text}
use Rattle.text_parse.specs.Reading.{Reads}
use Rattle.text_print.specs.Text.{listing_of, answer_of}
use Rattle.text_print.specs.Printing.{Wrote, text_max}

-- ---- 01, Listing program: variable count, width, L, the words of each point in turn, the target row
abbrev pub count_of : List ℕ → ℕ
count_of ns = get_or ns 0 0

abbrev pub width_of : List ℕ → ℕ
width_of ns = get_or ns 1 0

abbrev pub limit_of : List ℕ → ℕ
limit_of ns = get_or ns 2 0

-- 01, Points: places past the variable count 0. The words of point k
unfoldable pub point_of : List ℕ → ℕ → Point
unfolding pad_to
point_of ns k = record { words = pad_to 6 0 (take (count_of ns) (drop (3 + count_of ns * k) ns)) }

-- all sixteen
unfoldable pub points_of : List ℕ → List Point
unfolding point_of count_up
points_of ns = map (point_of ns) (count_up 0 16)

-- the sixteen words after the points
unfoldable pub target_of : List ℕ → List ℕ
target_of ns = take 16 (drop (3 + 16 * count_of ns) ns)

-- ---- 01, Turned back, for the listing program, after 9: 1, 2, 3 (L above 500), 5
unfoldable pub numbers_refusal : List ℕ → ℕ
unfolding points_of target_of reaches points_reach
numbers_refusal ns =
    refuse (bad_count (count_of ns)) 1
    (refuse (bad_width (width_of ns)) 2
    (refuse (ltb 500 (limit_of ns)) 3
    (refuse (points_reach (2 ^ width_of ns) (count_of ns) (points_of ns) || reaches (2 ^ width_of ns) (target_of ns)) 5 0)))

-- the bank that the numbers ask for, and the text of it and its index
unfoldable pub bank_for : List ℕ → List Atom
unfolding bank_of points_of target_of
bank_for ns = bank_of (count_of ns) (width_of ns) (points_of ns) (target_of ns)

unfoldable pub text_for : List ℕ → List ℕ
unfolding bank_for index_of listing_of
text_for ns = listing_of (bank_for ns) (index_of (width_of ns) (limit_of ns) all_gates (map (λ (a : Atom). a.row) (bank_for ns)))

-- 01, Listing program: what is written of what is read
unfoldable pub listing : List ℕ → List ℕ
unfolding answer_of numbers_refusal text_for listing_many read_text
listing text = answer_of numbers_refusal text_for (read_text listing_many text)

-- ---- the call
-- the text is laid from the buffer's start on, and its length is the answer
pub record Laid (out out' : List ℕ) (r : Result ℕ Refusal) (text : List ℕ) : Type 0 where
  pub says : says r ≡ answer (length text)
  pub fits : length text ≤ text_max
  pub wrote : Wrote out 0 out' (length text) text

-- 01, Turned back, 4: a buffer shorter than 131,072 is refused and stays as it is; else the listing of whatever text was read
pub record Listed (p : Parse) (out out' : List ℕ) (r : Result ℕ Refusal) : Type 0 where
  pub short : length out < text_max → (says r ≡ refused 4) × (out' ≡ out)
  pub written : text_max ≤ length out → (text : List ℕ) → length text + 1 < 2 ^ 64 → Reads p text → Laid out out' r (listing text)
