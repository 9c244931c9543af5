-- What holds of every index, as types; proofs/ has their proofs. Assumes nothing.
use Rattle.std.specs.Prelude.{◌≡◌, true, false, ◌⊎◌, List, [], ◌∷◌, ℕ, ◌^◌, ◌≤◌, ◌<◌, length, get_or, take}
use Rattle.row_gates.specs.Gates.{gate_row, reduced_row}
use Rattle.row_gates.specs.declared.Gate.{Gate}
use Rattle.row_gates.specs.declared.Gate.TheVariants.{And, Xor}
use Rattle.arrays.specs.Lists.{In, Place}
use Rattle.index_spec.specs.Index.{Pair, holds, all_gates, passes_over, index_of, rows_in, all_pairs}
use Rattle.index_spec.specs.Trials.{tried_of}

-- some slot has the row
abbrev pub Holds : List (List ℕ) → List ℕ → Type 0
Holds rows row = Place [] row rows

-- what stands past an index's end
abbrev pub no_pair : Pair
no_pair = record { gate = And; b = 0; c = 0; row = [] }

-- 01, Index, of one pair: its row is its gate of its atoms' rows, b ≤ c below the count; and the bank doesn't hold it
pub record SoundPair (w : ℕ) (gates : List Gate) (bank : List (List ℕ)) (p : Pair) : Type 0 where
  pub gate : In p.gate gates
  pub ordered : p.b ≤ p.c
  pub below : p.c < length bank
  pub row : p.row ≡ gate_row p.gate w (get_or bank p.b []) (get_or bank p.c [])
  pub new : Holds bank p.row → ⊥

-- of a list of pairs: each is sound, and no two share a row
pub record SoundPairs (w : ℕ) (gates : List Gate) (bank : List (List ℕ)) (pairs : List Pair) : Type 0 where
  pub pair : (k : ℕ) → k < length pairs → SoundPair w gates bank (get_or pairs k no_pair)
  pub distinct : (i j : ℕ) → i < j → j < length pairs → (get_or pairs i no_pair).row ≡ (get_or pairs j no_pair).row → ⊥

-- no row is lost: each gate's row of two atoms, in any order, is the bank's or a pair's; and of an atom with itself, but where the gate passes it over
abbrev pub NoneLost : ℕ → List Gate → List (List ℕ) → List Pair → Type 0
NoneLost w gates bank pairs =
    (g : Gate) → In g gates → (b c : ℕ) → b < length bank → c < length bank → (passes_over g ≡ true → b ≡ c → ⊥)
    → Holds bank (gate_row g w (get_or bank b []) (get_or bank c [])) ⊎ Holds (rows_in pairs) (gate_row g w (get_or bank b []) (get_or bank c []))

-- ---- the facts, for every width, limit, list of gates and bank
-- 01, Index: its pairs are gates of atoms' rows that the bank doesn't hold, none twice
abbrev pub IndexIsSound : Type 0
IndexIsSound = (w L : ℕ) (gates : List Gate) (bank : List (List ℕ)) → SoundPairs w gates bank (index_of w L gates bank).pairs

-- 01, Index: a new row when L pairs are listed ends the build
abbrev pub AtMostLimit : Type 0
AtMostLimit = (w L : ℕ) (gates : List Gate) (bank : List (List ℕ)) → length (index_of w L gates bank).pairs ≤ L

-- 01, Index: the mark is set exactly if a build ended so. Without it no row is lost that isn't passed over
abbrev pub UncutLosesNone : Type 0
UncutLosesNone = (w L : ℕ) (gates : List Gate) (bank : List (List ℕ)) → (index_of w L gates bank).cut ≡ false → NoneLost w gates bank (index_of w L gates bank).pairs

-- 01, Index: a row held by bank or index is skipped, a new row when L pairs are listed ends the build and sets the mark, nothing else does. So built, an
-- index is the first L of all new rows, each counted once, and is cut exactly if there are more
abbrev pub ByTrials : Type 0
ByTrials = (w L : ℕ) (gates : List Gate) (bank : List (List ℕ)) → tried_of w L gates bank ≡ index_of w L gates bank

-- 01, Index: smaller L gives its first L pairs
abbrev pub FirstPairs : Type 0
FirstPairs = (w L M : ℕ) (gates : List Gate) (bank : List (List ℕ)) → L ≤ M → (index_of w L gates bank).pairs ≡ take L (index_of w M gates bank).pairs

-- what is counted is each new row of a trial once: all pairs are sound, and none is lost that isn't passed over
abbrev pub AllAreSound : Type 0
AllAreSound = (w : ℕ) (gates : List Gate) (bank : List (List ℕ)) → SoundPairs w gates bank (all_pairs w gates bank)

abbrev pub AllLoseNone : Type 0
AllLoseNone = (w : ℕ) (gates : List Gate) (bank : List (List ℕ)) → NoneLost w gates bank (all_pairs w gates bank)

-- ---- 02, 2.3
-- every word of a pair's row is below 2^w, whatever the bank's are
abbrev pub PairsReduced : Type 0
PairsReduced =
    (w L : ℕ) (gates : List Gate) (bank : List (List ℕ)) (k j : ℕ) → k < length (index_of w L gates bank).pairs → get_or (get_or (index_of w L gates bank).pairs k no_pair).row j 0 < 2 ^ w

-- what is passed over, And or Or of a row with itself, is that row reduced. It is the row itself only where its words are below 2^w; modulo 2^w it always is,
-- so that with any word it has the product that the atom has
abbrev pub PassedOverIsReduced : Type 0
PassedOverIsReduced = (g : Gate) → passes_over g ≡ true → (w : ℕ) (row : List ℕ) → gate_row g w row row ≡ reduced_row w row

-- one atom, here a row of one word, 6
abbrev pub raw_bank : List (List ℕ)
raw_bank = (6 ∷ []) ∷ []

-- and over a lent bank with words at or above 2^w it may stand nowhere: at width 2 that atom's whole index is one pair, of 0, and 6 And 6 is 2
pub record PassedOverIsLost : Type 0 where
  pub whole : index_of 2 1 all_gates raw_bank ≡ record { pairs = record { gate = Xor; b = 0; c = 0; row = 0 ∷ [] } ∷ []; cut = false }
  pub row : gate_row And 2 (6 ∷ []) (6 ∷ []) ≡ 2 ∷ []
  pub no_atom_lem : holds raw_bank (2 ∷ []) ≡ false
  pub no_pair_lem : holds (rows_in (index_of 2 1 all_gates raw_bank).pairs) (2 ∷ []) ≡ false
