-- The pair index of a bank. "Bank", "atom", "row", "pair", "index" and "cut" are 01's terms: an atom is one of the bank's rows here, and a pair is a gate
-- of two atoms with the row that it gives. The gates are a parameter. Assumes nothing.
use Rattle.std.specs.Prelude.{Bool, true, false, ◌||◌, cond, ℕ, zero, suc, ◌-◌, ltb, get_or, length, take}
use mathlib.Core.List.{List, [], ◌∷◌, ◌++◌, map, flat_map}
use Rattle.arrays.specs.Parts.{part_at}
use Rattle.row_gates.specs.Gates.{gate_row, same_row}
use Rattle.row_gates.specs.declared.Gate.{Gate}
use Rattle.row_gates.specs.declared.Gate.TheVariants.{And, Or, Xor, Add, Mul}
use Rattle.arrays.specs.Lists.{count_up}

-- 01, Calls over a lent bank work on its contents as they are: the first n rows of a lent array, words at or above 2^w too
unfoldable pub rows_of : ℕ → List ℕ → List (List ℕ)
unfolding part_at
rows_of zero rows = []
rows_of (suc n) rows = rows_of n rows ++ (part_at 16 rows n ∷ [])

-- 01, Index: a row held: one of the rows has the same words, all of them
unfoldable pub holds : List (List ℕ) → List ℕ → Bool
unfolding same_row
holds [] row = false
holds (x ∷ rows) row = elim (same_row x row) [ true ↦ true | false ↦ holds rows row ]

-- 01, Index: a gate, b and c
pub record Trial : Type 0 where
  pub gate : Gate
  pub b : ℕ
  pub c : ℕ

-- 01, From heap ..: gate, b, c and row of a listed pair
pub record Pair : Type 0 where
  pub gate : Gate
  pub b : ℕ
  pub c : ℕ
  pub row : List ℕ

-- 01, Index: the mark "cut" is added by design
pub record Index : Type 0 where
  pub pairs : List Pair
  pub cut : Bool

-- 01, Index: gates in number order
unfoldable pub all_gates : List Gate
all_gates = And ∷ (Or ∷ (Xor ∷ (Add ∷ (Mul ∷ []))))

-- 01, Index: b = c passed over for And and Or
abbrev pub passes_over : Gate → Bool
passes_over And = true
passes_over Or = true
passes_over Xor = false
passes_over Add = false
passes_over Mul = false

-- 01, Index: c from b upward, b itself where the gate doesn't pass it over
unfoldable pub first_c : Gate → ℕ → ℕ
first_c g b = cond (passes_over g) (suc b) b

-- the first k trials of a gate with atom b
unfoldable pub trials_up_to : Gate → ℕ → ℕ → List Trial
unfolding count_up first_c
trials_up_to g b k = map (λ (c : ℕ). record { gate = g; b = b; c = c }) (count_up (first_c g b) k)

-- the trials of a gate with atom b, of n atoms
unfoldable pub trials_with : ℕ → Gate → ℕ → List Trial
unfolding trials_up_to
trials_with n g b = trials_up_to g b (n - first_c g b)

-- 01, Index: b ascending
unfoldable pub trials_of_gate : ℕ → Gate → List Trial
unfolding flat_map count_up trials_with
trials_of_gate n g = flat_map (trials_with n g) (count_up 0 n)

-- 01, Index: all trials, of n atoms under a list of gates, in order
unfoldable pub trials_of : List Gate → ℕ → List Trial
unfolding flat_map trials_of_gate
trials_of gates n = flat_map (trials_of_gate n) gates

-- 01, Built means: under a gate an atom stands for its row
unfoldable pub trial_row : ℕ → List (List ℕ) → Trial → List ℕ
unfolding gate_row
trial_row w bank t = gate_row t.gate w (get_or bank t.b []) (get_or bank t.c [])

-- the pair that a trial lists where its row is new
abbrev pub pair_of : ℕ → List (List ℕ) → Trial → Pair
pair_of w bank t = record { gate = t.gate; b = t.b; c = t.c; row = trial_row w bank t }

-- the rows that an index holds, by slot
unfoldable pub rows_in : List Pair → List (List ℕ)
rows_in pairs = map (λ (p : Pair). p.row) pairs

-- `seen`, and after it a pair for each row that neither bank nor `seen` holds, each row once
unfoldable pub add_new : ℕ → List (List ℕ) → List Pair → List Trial → List Pair
unfolding holds rows_in trial_row
add_new w bank seen [] = seen
add_new w bank seen (t ∷ ts) =
    cond (holds bank (trial_row w bank t) || holds (rows_in seen) (trial_row w bank t)) (add_new w bank seen ts) (add_new w bank (seen ++ (pair_of w bank t ∷ [])) ts)

-- 01, Uncut means: the rows that the gates give over the bank's atoms, trial by trial, and that the bank doesn't hold, each counted once. No limit and no mark
unfoldable pub all_pairs : ℕ → List Gate → List (List ℕ) → List Pair
unfolding add_new trials_of
all_pairs w gates bank = add_new w bank [] (trials_of gates (length bank))

-- 01, Index: the first L of them; a new row when L pairs are listed ends the build, and the mark is set exactly then
unfoldable pub index_of : ℕ → ℕ → List Gate → List (List ℕ) → Index
unfolding all_pairs
index_of w L gates bank = record { pairs = take L (all_pairs w gates bank); cut = ltb L (length (all_pairs w gates bank)) }
