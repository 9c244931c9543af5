-- What an index build answers and leaves, from its inputs alone. Assumes nothing.
use Rattle.std.specs.Prelude.{◌≡◌, Bool, ◌||◌, Result, List, ◌++◌, ℕ, ◌+◌, ◌/◌, ◌<◌, ltb, length, drop}
use Rattle.limits.specs.Limits.{atoms_max, pairs_max, too_many_atoms}
use Rattle.arrays.specs.Parts.{encode, spread}
use Rattle.limits.specs.Refusal.{refuse, unless_refused, bad_width, says, outcome}
use Rattle.limits.specs.declared.Refusal.{Refusal}
use Rattle.index_order.specs.Order.{order_of}
use Rattle.index_spec.specs.Index.{Pair, Index, all_gates, rows_of, index_of}
use Rattle.index_spec.specs.Encoding.{pair_part, pair_row}
use Rattle.index.specs.declared.BuiltIndex.{BuiltIndex}

-- ---- refusals
-- 01, Turned back, 4: a lent array shorter than its count needs, or than stated: 3L u32, 16L u64 and L u32, and a work area of 4 × (L + 479) u32
abbrev pub too_short : ℕ → ℕ → ℕ → ℕ → ℕ → ℕ → ℕ → Bool
too_short count L rows pairs pairRows order work =
    ltb (rows / 16) count || (ltb (pairs / 3) L || (ltb (pairRows / 16) L || (ltb order L || ltb (work / 4) (L + atoms_max))))

-- 01, Turned back: 2, 3, 4, 7 in the table's order, by the arrays' lengths
abbrev pub build_refusal : ℕ → ℕ → ℕ → ℕ → ℕ → ℕ → ℕ → ℕ → ℕ
build_refusal w count L rows pairs pairRows order work =
    refuse (bad_width w) 2 (refuse (ltb pairs_max L) 3 (refuse (too_short count L rows pairs pairRows order work) 4 (refuse (too_many_atoms count) 7 0)))

-- ---- the arrays
-- 01, From heap ..: all n pair slots, strictly ascending by (first row word, slot)
abbrev pub order_list : List Pair → List ℕ
order_list pairs = order_of (length pairs) (encode pair_row pairs)

-- what is lent to a build, and what it leaves
pub record Arrays : Type 0 where
  pub pairs : List ℕ
  pub rows : List ℕ
  pub order : List ℕ
  pub work : List ℕ

-- 01, Turned back, for an index build: 2, 3, 4, 7
abbrev pub index_refusal : ℕ → ℕ → List ℕ → ℕ → Arrays → ℕ
index_refusal w count rows L lent = build_refusal w count L (length rows) (length lent.pairs) (length lent.rows) (length lent.order) (length lent.work)

-- ---- the answer
-- 01, Index: how many pairs are listed, and the mark "cut"
abbrev pub summary_of : Index → BuiltIndex
summary_of index = record { pairs = length index.pairs; cut = index.cut }

-- 01, Calls over a lent bank work on its contents as they are: the index of the first `count` lent rows under all five gates
abbrev pub lent_index : ℕ → ℕ → List ℕ → ℕ → Index
lent_index w count rows L = index_of w L all_gates (rows_of count rows)

-- 01, Agreed between us: the result and the final contents of every array. The work area's are the program's choice, unless the call is turned back
pub record IndexBuilt (w count : ℕ) (rows : List ℕ) (L : ℕ) (old new : Arrays) (r : Result BuiltIndex Refusal) : Type 0 where
  pub says : says r ≡ outcome (index_refusal w count rows L old) (summary_of (lent_index w count rows L))
  pub pairs : new.pairs ≡ unless_refused (index_refusal w count rows L old) (spread 3 pair_part (lent_index w count rows L).pairs old.pairs) old.pairs
  pub rows_are : new.rows ≡ unless_refused (index_refusal w count rows L old) (spread 16 pair_row (lent_index w count rows L).pairs old.rows) old.rows
  pub order : new.order
      ≡ unless_refused (index_refusal w count rows L old)
      (order_list (lent_index w count rows L).pairs ++ drop (length (lent_index w count rows L).pairs) old.order)
      old.order
  pub work-kept : 0 < index_refusal w count rows L old → new.work ≡ old.work

-- the arrays by name, for the contract
abbrev pub arrays_of : List ℕ → List ℕ → List ℕ → List ℕ → Arrays
arrays_of pairs rows order work = record { pairs = pairs; rows = rows; order = order; work = work }
