-- An index build in 01's words, trial by trial; `ByTrials` of Facts says that it gives `index_of`. Assumes nothing.
use Rattle.std.specs.Prelude.{true, false, List, [], ◌∷◌, ◌++◌, ℕ, ltb, length}
use Rattle.row_gates.specs.declared.Gate.{Gate}
use Rattle.index_spec.specs.Index.{Trial, Pair, Index, holds, trials_of, trial_row, pair_of, rows_in}

-- an index with one pair more, and an index that ended
abbrev pub listed : Index → Pair → Index
listed index p = record { pairs = index.pairs ++ (p ∷ []); cut = false }

abbrev pub ended : Index → Index
ended index = record { pairs = index.pairs; cut = true }

-- 01, Index: a row held by bank or index is skipped; a new row when L pairs are listed ends the build, and nothing else sets the mark
unfoldable pub try_pair : ℕ → ℕ → List (List ℕ) → Index → Trial → Index
unfolding holds rows_in trial_row
try_pair w L bank index t =
    elim index.cut [
      | true ↦ index
      | false ↦ elim (holds bank (trial_row w bank t)) [
        | true ↦ index
        | false ↦ elim (holds (rows_in index.pairs) (trial_row w bank t)) [
          | true ↦ index
          | false ↦ elim (ltb (length index.pairs) L) [ true ↦ listed index (pair_of w bank t) | false ↦ ended index ]
        ]
      ]
    ]

-- one trial after the other
unfoldable pub try_all : ℕ → ℕ → List (List ℕ) → Index → List Trial → Index
unfolding try_pair
try_all w L bank index [] = index
try_all w L bank index (t ∷ ts) = try_all w L bank (try_pair w L bank index t) ts

-- before the first trial
abbrev pub no_pairs : Index
no_pairs = record { pairs = []; cut = false }

-- all trials in turn, from the empty index on
unfoldable pub tried_of : ℕ → ℕ → List Gate → List (List ℕ) → Index
unfolding try_all trials_of
tried_of w L gates bank = try_all w L bank no_pairs (trials_of gates (length bank))
