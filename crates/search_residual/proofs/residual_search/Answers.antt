-- `search_residual::residual_search` meets its contract: turned back as the table says, or what was found. Assumes nothing.
use mathlib.Core.Path.{sym}
use borrow.Author.Rules.{rules}
use Rattle.search_residual.proofs.Passing.{none-refused}
use Rattle.search_residual.proofs.residual_search.Goals as goal

pub search_rows-requires : goal.search_rows-requires
search_rows-requires c =
    let a = c.args in
    none-refused a.w a.atom_count a.atom_rows.now a.pair_count a.pair_rows.now a.target (sym c.in_ok-check.ensures) (search rules)
