-- `search_residual::inner::search_rows` meets its contract: what the passes tell is the answer of trying everything. Assumes nothing.
use mathlib.Core.Path.{refl, ◌∙◌}
use lib.ListN.{get_or-replicate}
use Rattle.row_map.proofs.MapLaws.{chained-none}
use Rattle.search_residual_map.specs.Map.{Asked}
use Rattle.search_residual.proofs.Joining.{told-is-tried}
use native.Mathlib.Omega.{arith}
use Rattle.search_residual.proofs.inner.search_rows.Goals as goal

pub fill-requires : goal.fill-requires
fill-requires c =
    let asked : Asked c.args.search.now.w c.args.search.now.count c.args.search.now.atoms.now c.args.search.now.target
    = record { width = c.requires.width; few = c.requires.few; fit = c.requires.atoms-fit; long = c.requires.long } in
    (asked, record { long = refl; chained = chained-none _ _ 12 (λ h l. get_or-replicate 5054 h 0 0 (omega arith)) })

pub returns : goal.returns
returns c =
    c.first_told.ensures
    ∙ told-is-tried c.args.search.now.w c.args.search.now.count c.args.search.now.atoms.now c.args.n c.args.listed.now c.args.search.now.target c.first_of-bank.result c.first_of-index.result c.first_of-bank.ensures c.first_of-index.ensures
