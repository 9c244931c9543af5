-- `log_rules::inner::ask` meets its contract. Assumes nothing.
use mathlib.Core.Path.{sym, ap, ◌∙◌}
use borrow.Author.Tests.{lt-ltb, le-ltb}
use Rattle.rule_run.specs.Window.{Ran}
use Rattle.log_rules.proofs.Asking.{either_by}
use Rattle.log_rules.proofs.inner.ask.Goals as goal

pub returns-then-rule-gt-MAX_TOKENS : goal.returns-then-rule-gt-MAX_TOKENS
returns-then-rule-gt-MAX_TOKENS c = let a = c.args in let r = a.rule.now in let x = a.records.now in let e = sym (ap (either_by x.nv x.w r.token_count r.ops.now r.operands.now r.m r.window a.past x.n x.words.now a.answers.now) (lt-ltb 64 r.token_count c.if-rule-gt-MAX_TOKENS.true)) in record {
  value = ap (λ (y : Ran). y.reply) e;
  answers_after = ap (λ (y : Ran). y.answers) e;
}

pub returns : goal.returns
returns c = let a = c.args in let r = a.rule.now in let x = a.records.now in let e = sym (ap (either_by x.nv x.w r.token_count r.ops.now r.operands.now r.m r.window a.past x.n x.words.now a.answers.now) (le-ltb 64 r.token_count c.if-rule-gt-MAX_TOKENS.false)) in record {
  value = c.run_rule.ensures.value ∙ ap (λ (y : Ran). y.reply) e;
  answers_after = c.run_rule.ensures.answers_after ∙ ap (λ (y : Ran). y.answers) e;
}
