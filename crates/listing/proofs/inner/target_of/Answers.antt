-- `listing::inner::target_of` meets its contract: the sixteen numbers after the points. Assumes nothing.
use mathlib.Core.Path.{◌∙◌}
use Rattle.listing.proofs.Numbers.{target_part}
use Rattle.listing.proofs.inner.target_of.Goals as goal

pub returns : goal.returns
returns c = c.copy_from_slice.ensures.after ∙ target_part c.args.numbers c.args.nv c.requires.0
