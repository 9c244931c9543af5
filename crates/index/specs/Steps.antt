-- A whole build, as the contract of `inner::build` has it. Assumes nothing.
use Rattle.std.specs.Prelude.{◌≡◌, List, ◌++◌, ℕ, ◌+◌, ◌*◌, ◌≤◌, length, drop}
use Rattle.limits.specs.Limits.{atoms_max, pairs_max}
use Rattle.arrays.specs.Parts.{spread}
use Rattle.index_spec.specs.Encoding.{pair_part, pair_row}
use Rattle.index_trial.specs.declared.inner.Tally.{Tally}
use Rattle.index.specs.Build.{build_refusal, order_list, lent_index}
use Rattle.index.specs.declared.inner.Asked.{Asked}
use Rattle.index.specs.declared.inner.Lengths.{Lengths}

-- what a build that is not refused is called with
pub record Fits (w count limit : ℕ) (rows work pairs pairRows order : List ℕ) : Type 0 where
  pub width : w ≤ 64
  pub few : count ≤ atoms_max
  pub atoms : 16 * count ≤ length rows
  pub most : limit ≤ pairs_max
  pub pairs-fit : 3 * limit ≤ length pairs
  pub rows_fit : 16 * limit ≤ length pairRows
  pub order-fit : limit ≤ length order
  pub area : 4 * (limit + atoms_max) ≤ length work

-- and what it leaves
pub record Made (w count limit : ℕ) (rows pairs pairRows order pairs' pairRows' order' : List ℕ) (r : Tally) : Type 0 where
  pub within : r.pairs ≤ limit
  pub count-is : r.pairs ≡ length (lent_index w count rows limit).pairs
  pub mark-is : r.cut ≡ (lent_index w count rows limit).cut
  pub pairs-are : pairs' ≡ spread 3 pair_part (lent_index w count rows limit).pairs pairs
  pub rows_are : pairRows' ≡ spread 16 pair_row (lent_index w count rows limit).pairs pairRows
  pub order_is : order' ≡ order_list (lent_index w count rows limit).pairs ++ drop (length (lent_index w count rows limit).pairs) order

-- the refusal of what is asked, by the arrays' lengths
abbrev pub asked_refusal : Asked → Lengths → ℕ
asked_refusal asked lent = build_refusal asked.w asked.count asked.limit lent.rows lent.pairs lent.pair_rows lent.order lent.work
