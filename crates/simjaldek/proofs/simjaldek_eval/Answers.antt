-- `simjaldek_eval` meets its contract: the reply of what the call answers. Assumes nothing.
use mathlib.Core.Path.{ap, ◌∙◌}
use Rattle.simjaldek_abi.specs.Reply.{word_reply}
use Rattle.simjaldek.proofs.simjaldek_eval.Goals as goal

pub returns : goal.returns
returns c = c.of_value.ensures ∙ ap word_reply c.eval.ensures
