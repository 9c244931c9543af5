-- `simjaldek_token_at` meets its contract: the reply of the token that the call answers. Assumes nothing.
use mathlib.Core.Path.{ap, ◌∙◌}
use Rattle.expr.specs.declared.Token.{Token}
use Rattle.simjaldek_abi.specs.Reply.{token_reply}
use Rattle.simjaldek.proofs.simjaldek_token_at.Goals as goal

pub returns : goal.returns
returns c = c.of_token.ensures ∙ ap (λ (t : Token). token_reply t) c.token_at.ensures
