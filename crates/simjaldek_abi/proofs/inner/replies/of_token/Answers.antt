-- `simjaldek_abi::inner::replies::of_token` meets its contract: each case has its opcode and its operand. Assumes nothing.
use mathlib.Core.Path.{sym, ap, ◌∙◌}
use Prim.Native.Nat.{ℕ}
use Rattle.expr.specs.declared.Token.{Token}
use Rattle.simjaldek_abi.specs.Reply.{token_parts, token_reply}
use Rattle.simjaldek_abi.proofs.inner.replies.of_token.Goals as goal

pub returns-in-Constant : goal.returns-in-Constant
returns-in-Constant c = c.token.ensures ∙ ap (λ (t : Token). token_reply t) (sym c.in-Constant.is)

pub returns-in-Variable : goal.returns-in-Variable
returns-in-Variable c = c.token-in-Variable.ensures ∙ ap (λ (t : Token). token_reply t) (sym c.in-Variable.is)

pub returns-in-Binary : goal.returns-in-Binary
returns-in-Binary c = c.token-in-Binary.ensures ∙ ap (λ (opcode : ℕ). token_parts opcode 0) c.gate_opcode.ensures ∙ ap (λ (t : Token). token_reply t) (sym c.in-Binary.is)

pub returns-in-Not : goal.returns-in-Not
returns-in-Not c = c.token-in-Not.ensures ∙ ap (λ (t : Token). token_reply t) (sym c.in-Not.is)

pub returns-in-Neg : goal.returns-in-Neg
returns-in-Neg c = c.token-in-Neg.ensures ∙ ap (λ (t : Token). token_reply t) (sym c.in-Neg.is)

pub returns-in-Bad : goal.returns-in-Bad
returns-in-Bad c = c.token-in-Bad.ensures ∙ ap (λ (t : Token). token_reply t) (sym c.in-Bad.is)
