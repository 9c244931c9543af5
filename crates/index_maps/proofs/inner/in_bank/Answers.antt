-- `index_maps::inner::in_bank` meets its contract: what the map finds is what the rows hold. Assumes nothing.
use mathlib.Core.Path.{sym}
use Rattle.row_map.proofs.MapLaws.{lookup_at, lookup_free}
use Rattle.index_maps.specs.Area.{bank_bits}
use Rattle.index_maps.proofs.FindLaws.{hit-holds, miss_holds}
use Rattle.index_maps.proofs.inner.in_bank.Goals as goal

pub returns-in-At : goal.returns-in-At
returns-in-At c = sym (hit-holds (lookup_at bank_bits c.in-At.is c.find_by-found.ensures))

pub returns-in_default : goal.returns-in_default
returns-in_default c = sym (miss_holds (lookup_free c.in_default.is c.find_by-found.ensures))
