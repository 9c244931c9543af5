-- `index_maps::inner::fill_bank_map` meets its contract: the map holds the rows passed. Assumes nothing.
use mathlib.Core.Path.{sym, subst}
use mathlib.Core.List.{List}
use Prim.Native.Nat.{ℕ}
use Rattle.row_map.specs.Map.{Held}
use Rattle.row_map.proofs.MapLaws.{held-empty}
use Rattle.index_maps.specs.Area.{bank_bits}
use Rattle.index_maps.proofs.inner.fill_bank_map.Goals as goal

pub loop-i-init : goal.loop-i-init
loop-i-init c = subst (λ (z : List ℕ). Held z c.args.atoms.now bank_bits 0) (sym c.clear.ensures) (held-empty c.args.map.now c.args.atoms.now bank_bits)
