-- `simjaldek_open_log` meets its contract: the log out of its numbers, opened, by its numbers. Assumes nothing.
use mathlib.Core.Path.{ap, ◌∙◌}
use Rattle.log_run.specs.declared.Log.{Log}
use Rattle.log_run.specs.Step.{opened}
use Rattle.simjaldek_abi.specs.Reply.{log_state}
use Rattle.simjaldek.proofs.simjaldek_open_log.Goals as goal

pub returns : goal.returns
returns c = c.log_state.ensures ∙ ap log_state c.open_log.ensures ∙ ap (λ (l : Log). log_state (opened l)) c.log_of.ensures
