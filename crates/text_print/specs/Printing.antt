-- What is printed from the lent arrays of a bank and an index. Assumes nothing.
use Rattle.std.specs.Prelude.{◌≡◌, Bool, ℕ, zero, suc, ◌+◌, ◌*◌, ◌/◌, ◌%◌, ◌^◌, ◌≤◌, ◌<◌, length, get_or}
use mathlib.Core.List.{List, [], ◌∷◌, ◌++◌, flat_map}
use Rattle.std.proofs.lemmas.List.Edits.{sets}
use Rattle.limits.specs.Limits.{atoms_max}
use Rattle.arrays.specs.Lists.{count_up}
use Rattle.arrays.specs.Parts.{part_at, spread}
use Rattle.row_gates.specs.declared.Gate.TheVariants.{And, Or, Xor, Add, Mul}
use Rattle.expr.specs.declared.Token.{Token}
use Rattle.expr.specs.declared.Token.TheVariants.{Constant, Variable, Binary, Not, Neg, Bad}
use Rattle.expr.specs.Formula.{tokens}
use Rattle.bank_spec.specs.Push.{Atom}
use Rattle.bank_spec.specs.Encoding.{Arrays, written}
use Rattle.index_spec.specs.Index.{Index}
use Rattle.index_spec.specs.Encoding.{pair_part}
use Rattle.text_print.specs.Text.{decimal, field, token_text, formula_line, listing_of}

-- l' is l with the text laid from place i on, and r is the place after it
pub record Wrote (l : List ℕ) (i : ℕ) (l' : List ℕ) (r : ℕ) (text : List ℕ) : Type 0 where
  pub next : r ≡ i + length text
  pub laid : l' ≡ sets l i text

-- ---- how long each piece of the text can get
-- a number below 2^64, and one with the byte after it
abbrev pub decimal_max : ℕ
decimal_max = 20

abbrev pub field_max : ℕ
field_max = 21

-- the head line, and the mark at its end
abbrev pub head_max : ℕ
head_max = 60

abbrev pub mark_max : ℕ
mark_max = 6

-- a line of three numbers
abbrev pub numbers_max : ℕ
numbers_max = 63

-- a token, and one with a blank before it
abbrev pub token_max : ℕ
token_max = 21

abbrev pub next_max : ℕ
next_max = 22

-- the line of a refusal
abbrev pub refusal_max : ℕ
refusal_max = 29

-- 01, From heap ..: an atom has at most 6 tokens; the line of its formula, and both its lines
abbrev pub formula_max : ℕ
formula_max = 133

abbrev pub atom_max : ℕ
atom_max = 196

-- ---- digits by pairs, zeros before the others
-- two digits of a number below 100, four of one below 10^4, eight of one below 10^8
unfoldable pub two_of : ℕ → List ℕ
two_of n = (48 + n / 10) ∷ (48 + n % 10) ∷ []

unfoldable pub four_of : ℕ → List ℕ
unfolding two_of
four_of n = two_of (n / 100) ++ two_of (n % 100)

unfoldable pub eight_of : ℕ → List ℕ
unfolding four_of
eight_of n = four_of (n / 10000) ++ four_of (n % 10000)

-- four numbers in a word, 16 bits each, and the two bytes of two_of as a number
abbrev pub lanes : ℕ → ℕ → ℕ → ℕ → ℕ
lanes a b c d = a + 2 ^ 16 * b + 2 ^ 32 * c + 2 ^ 48 * d

abbrev pub bytes_of : ℕ → ℕ
bytes_of n = 48 + n / 10 + 256 * (48 + n % 10)

-- r has the tenths of the numbers below 100 that v has
pub record Tenths (v r : ℕ) : Type 0 where
  pub are : (a b c d : ℕ) → a < 100 → b < 100 → c < 100 → d < 100 → v ≡ lanes a b c d → r ≡ lanes (a / 10) (b / 10) (c / 10) (d / 10)

-- ---- the text from the arrays
-- the lines of the first n slots
unfoldable pub lines_text : (ℕ → List ℕ) → ℕ → List ℕ
unfolding flat_map count_up
lines_text line n = flat_map line (count_up 0 n)

-- three numbers as a line: a cost's, or a pair's
abbrev pub numbers_line : List ℕ → List ℕ
numbers_line l = field (get_or l 0 0) 32 ++ (field (get_or l 1 0) 32 ++ field (get_or l 2 0) 10)

-- the line of slot k in an array of three numbers a slot
unfoldable pub numbers_at : List ℕ → ℕ → List ℕ
unfolding decimal part_at
numbers_at numbers k = numbers_line (part_at 3 numbers k)

-- the line of slot k's formula in the arrays of lengths, opcodes and operands
unfoldable pub formula_at : List ℕ → List ℕ → List ℕ → ℕ → List ℕ
unfolding formula_line tokens part_at
formula_at lengths ops operands k = formula_line (tokens (get_or lengths k 0) (part_at 6 ops k) (part_at 6 operands k))

-- the sign of a token, 0 for a leaf and for what is no token
unfoldable pub sign_of : Token → ℕ
sign_of (Constant k) = 0
sign_of (Variable i) = 0
sign_of (Binary Add) = 43
sign_of (Binary Mul) = 42
sign_of (Binary And) = 38
sign_of (Binary Or) = 124
sign_of (Binary Xor) = 94
sign_of Not = 33
sign_of Neg = 45
sign_of Bad = 0

-- a token with i others before it in its line
unfoldable pub next_text : ℕ → Token → List ℕ
unfolding token_text
next_text zero t = token_text t
next_text (suc i) t = 32 ∷ token_text t

-- n formulas of at most six tokens each, in arrays that are long enough
pub record Stored (lengths ops operands : List ℕ) (n : ℕ) : Type 0 where
  pub lengths-fit : n ≤ length lengths
  pub ops-fit : 6 * n ≤ length ops
  pub operands-fit : 6 * n ≤ length operands
  pub short : (k : ℕ) → k < n → get_or lengths k 0 ≤ 6

-- ---- the listing
-- how long a buffer has to be: no listing of 479 atoms of 6 tokens and 500 pairs is longer
abbrev pub text_max : ℕ
text_max = 131072

-- n atoms of at most six tokens each, and m pairs, in arrays that are long enough
pub record Shown (lengths ops operands costs : List ℕ) (n : ℕ) (pairs : List ℕ) (m : ℕ) : Type 0 where
  pub few : n ≤ atoms_max
  pub lengths-fit : n ≤ length lengths
  pub ops-fit : 6 * n ≤ length ops
  pub operands-fit : 6 * n ≤ length operands
  pub costs-fit : 3 * n ≤ length costs
  pub short : (k : ℕ) → k < n → get_or lengths k 0 ≤ 6
  pub some : m ≤ 500
  pub pairs-fit : 3 * m ≤ length pairs

-- the arrays hold the bank and the index, over whatever they held before
pub record Holding (lengths ops operands costs : List ℕ) (n : ℕ) (pairs : List ℕ) (m : ℕ) (cut : Bool) (bank : List Atom) (index : Index) : Type 0 where
  pub old : Arrays
  pub rows : List ℕ
  pub old_pairs : List ℕ
  pub arrays : written bank old ≡ record { lengths = lengths; ops = ops; operands = operands; costs = costs; rows = rows }
  pub pairs-are : pairs ≡ spread 3 pair_part index.pairs old_pairs
  pub count : n ≡ length bank
  pub pair-count : m ≡ length index.pairs
  pub mark : cut ≡ index.cut

-- what printing writes: whatever bank and index the arrays hold
pub record Printed (lengths ops operands costs : List ℕ) (n : ℕ) (pairs : List ℕ) (m : ℕ) (cut : Bool) (out out' : List ℕ) (r : ℕ) : Type 0 where
  pub fits : r ≤ text_max
  pub is : (bank : List Atom) (index : Index) → Holding lengths ops operands costs n pairs m cut bank index → Wrote out 0 out' r (listing_of bank index)
