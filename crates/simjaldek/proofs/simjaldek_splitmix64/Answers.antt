-- `simjaldek_splitmix64` meets its contract: the fields of what the call answers. Assumes nothing.
use mathlib.Core.Path.{ap}
use Rattle.simjaldek_abi.specs.Reply.{draw_reply}
use Rattle.simjaldek.proofs.simjaldek_splitmix64.Goals as goal

pub returns : goal.returns
returns c = ap draw_reply c.splitmix64-x.ensures
