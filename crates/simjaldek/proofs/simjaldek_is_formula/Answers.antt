-- `simjaldek_is_formula` meets its contract: the mark of what the call answers. Assumes nothing.
use mathlib.Core.Path.{ap, ◌∙◌}
use Rattle.simjaldek_abi.specs.Reply.{mark_of}
use Rattle.simjaldek.proofs.simjaldek_is_formula.Goals as goal

pub returns : goal.returns
returns c = c.mark_of.ensures ∙ ap mark_of c.is_formula.ensures
