-- `simjaldek_compute_cost` meets its contract: the reply of what the call answers. Assumes nothing.
use mathlib.Core.Path.{ap, ◌∙◌}
use Rattle.simjaldek_abi.specs.Reply.{cost_reply}
use Rattle.simjaldek.proofs.simjaldek_compute_cost.Goals as goal

pub returns : goal.returns
returns c = c.of_cost.ensures ∙ ap cost_reply c.compute_cost.ensures
