-- `search_product::product_search` meets its contract: turned back as the table says, or what the two stages found. Assumes nothing.
use mathlib.Core.Path.{refl, sym}
use Rattle.search_product.proofs.Passing.{none-refused}
use Rattle.search_product.proofs.product_search.Goals as goal

pub search_rows-requires : goal.search_rows-requires
search_rows-requires c = none-refused _ _ _ _ _ _ _ _ (sym c.in_ok-check.ensures.refusal) (c.in_ok-check.ensures.long refl)
