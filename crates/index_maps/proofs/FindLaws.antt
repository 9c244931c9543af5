-- What the map's answers say of the rows: one that is found is held, one that is not isn't. Assumes nothing.
use mathlib.Core.Path.{◌≡◌, subst}
use mathlib.Core.Bool.{true, false}
use mathlib.Core.List.{List}
use Prim.Native.Nat.{ℕ}
use Rattle.row_map.specs.Map.{Hit, Miss}
use Rattle.arrays.specs.Lists.{In}
use Rattle.index_spec.specs.Index.{rows_of, holds}
use Rattle.index_spec.proofs.IndexLaws.{in_holds, not_in_holds}
use Rattle.index_spec.proofs.RowLaws.{in_rows, not_in_rows}

pub hit-holds : {rows row : List ℕ} {n s : ℕ} → Hit rows n row s → holds (rows_of n rows) row ≡ true
hit-holds {rows} {row} {n} {s} hit = in_holds (rows_of n rows) row (subst (λ (r : List ℕ). In r (rows_of n rows)) hit.same (in_rows n rows s hit.below))

pub miss_holds : {rows row : List ℕ} {bits n h : ℕ} → Miss bits rows n row h → holds (rows_of n rows) row ≡ false
miss_holds {rows} {row} {bits} {n} miss = not_in_holds (rows_of n rows) row (not_in_rows n rows row miss.none)
