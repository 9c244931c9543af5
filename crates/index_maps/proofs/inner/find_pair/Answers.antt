-- `index_maps::inner::find_pair` meets its contract: the pairs' map is all that lies after the bank's. Assumes nothing.
use mathlib.Core.Path.{refl, sym, subst}
use mathlib.Core.List.{List}
use Prim.Native.Nat.{ℕ}
use lib.ListN.{length}
use Rattle.row_map.specs.Map.{Searchable}
use Rattle.index_maps.specs.Area.{bank_area}
use Rattle.index_maps.proofs.AreaLaws.{back_whole}
use Rattle.index_maps.proofs.inner.find_pair.Goals as goal

pub find_by-requires-clause-searchable : goal.find_by-requires-clause-searchable
find_by-requires-clause-searchable c =
    let a = c.args in
    subst (λ (z : List ℕ). Searchable z a.bits a.listed.now a.n) (sym (back_whole bank_area (length a.work.now) a.work.now refl)) c.requires.bank_area_in_bounds.1
