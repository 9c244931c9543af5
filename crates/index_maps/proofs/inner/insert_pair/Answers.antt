-- `index_maps::inner::insert_pair` meets its contract: the part after the bank's map is lent. Assumes nothing.
use mathlib.Core.Path.{refl, sym, subst}
use mathlib.Core.List.{List}
use Prim.Native.Nat.{ℕ}
use lib.ListN.{length}
use Rattle.row_map.specs.Map.{Room}
use Rattle.index_maps.specs.Area.{bank_area}
use Rattle.index_maps.proofs.AreaLaws.{back_whole, inserted-back}
use Rattle.index_maps.proofs.inner.insert_pair.Goals as goal

pub insert-requires : goal.insert-requires
insert-requires c =
    let a = c.args in
    subst (λ (z : List ℕ). Room z a.bits a.n.0 a.home) (sym (back_whole bank_area (length a.work.now) a.work.now refl)) c.requires.1

pub returns : goal.returns
returns c =
    let a = c.args in
    inserted-back a.work.now _ (length a.work.now) a.bits a.n.0 a.home c.requires.0 refl c.insert.ensures
