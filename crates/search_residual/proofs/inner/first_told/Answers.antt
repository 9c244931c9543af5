-- `search_residual::inner::first_told` meets its contract: Add counts where Xor has none. Assumes nothing.
use mathlib.Core.Option.{or_else}
use Rattle.search_residual.proofs.inner.first_told.Goals as goal
use borrow.Author.Rules.{rules}

pub returns : goal.returns
unfolding or_else
returns c = search rules
