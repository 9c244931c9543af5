-- `log_rules::inner::ask_record` meets its contract: more than 64 tokens are 6, else the rule's own promise. Assumes nothing.
use mathlib.Core.Path.{sym, ap, ◌∙◌}
use mathlib.Core.List.{[], ◌∷◌}
use borrow.Author.Tests.{lt-ltb, le-ltb}
use Rattle.rule_run.specs.Steps.{record_answer}
use Rattle.log_rules.proofs.Asking.{either_by}
use Rattle.log_rules.proofs.inner.ask_record.Goals as goal

pub returns-then-rule-gt-MAX_TOKENS : goal.returns-then-rule-gt-MAX_TOKENS
returns-then-rule-gt-MAX_TOKENS c =
    let a = c.args in
    let r = a.rule.now in
    sym (ap record_answer (ap (either_by a.nv a.w r.token_count r.ops.now r.operands.now r.m r.window a.past 1 a.words.now (0 ∷ [])) (lt-ltb 64 r.token_count c.if-rule-gt-MAX_TOKENS.true)))

pub returns : goal.returns
returns c =
    let a = c.args in
    let r = a.rule.now in
    c.run_record.ensures ∙ sym (ap record_answer (ap (either_by a.nv a.w r.token_count r.ops.now r.operands.now r.m r.window a.past 1 a.words.now (0 ∷ [])) (le-ltb 64 r.token_count c.if-rule-gt-MAX_TOKENS.false)))
