-- `search_residual_map::inner::home_of` meets its contract: the highest twelve of 64 bits are a quotient. Assumes nothing.
use Rattle.std.proofs.Common.{◌≡◌, ℕ, ◌/◌, ◌^◌, ◌<◌, sym, ap, subst}
use Rattle.arrays.specs.Parts.{part_at}
use Rattle.search_residual_map.specs.Map.{home_of}
use Rattle.search_residual_map.proofs.Walking.{home-small}
use Rattle.search_residual_map.proofs.inner.home_of.Goals as goal

pub returns : goal.returns
unfolding home_of
returns c =
    let homed : c.mix_row.result / 2 ^ 52 ≡ home_of (part_at 16 c.args.rows.now c.args.slot)
    = ap (λ (x : ℕ). x / 2 ^ 52) c.mix_row.ensures in
    let row = part_at 16 c.args.rows.now c.args.slot in
    (homed, subst (λ (h : ℕ). h < 4096) (sym homed) (home-small row))
