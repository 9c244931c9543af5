-- What each call's refusal is written with. A "refusal" is a number of 01's table "Turned back"; 0 stands for none. Assumes nothing.
use Rattle.std.specs.Prelude.{Bool, ◌||◌, cond, ℕ, ltb, Result, Ok, Err}
use Rattle.limits.specs.declared.Refusal.{Refusal}
use Rattle.limits.specs.declared.Refusal.TheVariants.{VariableCount, Width, Limit, ShortArray, LargeWord, Formula, Claim, Order, Text, Window, Ranks}

-- 01, Turned back: the table's numbers; 02, 2.6 and 2.7, add 10 and 11
abbrev pub number_of : Refusal → ℕ
number_of VariableCount = 1
number_of Width = 2
number_of Limit = 3
number_of ShortArray = 4
number_of LargeWord = 5
number_of Formula = 6
number_of Claim = 7
number_of Order = 8
number_of Text = 9
number_of Window = 10
number_of Ranks = 11

-- the number that a test told, 0 where it passed
abbrev pub refusal_of : {A : Type 0} → Result A Refusal → ℕ
refusal_of (Ok x) = 0
refusal_of (Err r) = number_of r

-- 01, Turned back: the least applicable number counts. A call's refusal is a chain of these in the table's order, with 0 at its end
abbrev pub refuse : Bool → ℕ → ℕ → ℕ
refuse applies number rest = cond applies number rest

-- the answer where nothing is refused, and what a call hands back instead where something is
abbrev pub unless_refused : {A : Type 0} → ℕ → A → A → A
unless_refused number answer refused = cond (ltb 0 number) refused answer

-- 01, Expected forms: what an answer says, in 01's terms: a number of the table, or a value
pub data Outcome (A : Type 0) : Type 0 where
  refused : ℕ → Outcome A
  answer : A → Outcome A

-- what a `Result` says: the number of its refusal, or its value; `says_by f` what stands for the value
abbrev pub says_by : {A B : Type 0} → (A → B) → Result A Refusal → Outcome B
says_by f (Ok x) = answer (f x)
says_by f (Err r) = refused (number_of r)

abbrev pub says : {A : Type 0} → Result A Refusal → Outcome A
says (Ok x) = answer x
says (Err r) = refused (number_of r)

-- a call's outcome: the number where it is not 0, else the value
abbrev pub outcome : {A : Type 0} → ℕ → A → Outcome A
outcome number value = unless_refused number (answer value) (refused number)

-- n is not `low` to `high`
abbrev pub outside_of : ℕ → ℕ → ℕ → Bool
outside_of low high n = ltb n low || ltb high n

-- 01, Turned back, 1: variable count not 1 to 6
abbrev pub bad_count : ℕ → Bool
bad_count nv = outside_of 1 6 nv

-- 01, Turned back, 2: width not 1 to 64
abbrev pub bad_width : ℕ → Bool
bad_width w = outside_of 1 64 w
