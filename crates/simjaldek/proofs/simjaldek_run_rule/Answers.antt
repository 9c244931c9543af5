-- `simjaldek_run_rule` meets its contract: the fields of what the call answers, and its array. Assumes nothing.
use mathlib.Core.Path.{ap, ◌∙◌}
use Rattle.simjaldek_abi.specs.Reply.{rule_reply}
use Rattle.simjaldek.proofs.simjaldek_run_rule.Goals as goal

pub returns : goal.returns
returns c = record {
  value = c.of_rule.ensures ∙ ap rule_reply c.run_rule-x.ensures.value;
  answers_after = c.run_rule-x.ensures.answers_after;
}
