-- `log_rules::inner::ask_at` meets its contract: a rule has 64 places of each array. Assumes nothing.
use mathlib.Core.Path.{sym, ◌∙◌}
use Rattle.rule_run.specs.Window.{replied}
use Rattle.log_rules.specs.Lent.{rule_of}
use Rattle.log_rules.proofs.Asking.{replied-number, at-number, at-state, at-answer}
use Rattle.log_rules.proofs.inner.ask_at.Goals as goal

pub rule-requires : goal.rule-requires
rule-requires c = record {
  ms = c.requires.0.ms-there;
  windows = c.requires.0.windows-there;
  counts = c.requires.0.counts-there;
  ops = c.requires.0.ops-there;
  operands = c.requires.0.operands-there;
}

pub returns : goal.returns
returns c =
    let a = c.args in
    let r = a.rules.now in
    let x = a.records.now in
    let q = rule_of c.rule.result in
    let told = replied (record { past = a.past }) c.ask.result in
    let same = replied-number (record { past = a.past }) c.ask.result in
    let number = at-number x.nv x.w a.i r.ms.now r.windows.now r.token_counts.now r.ops.now r.operands.now a.past x.n x.words.now a.answers.now c.requires.0 c.requires.1 q c.rule.ensures told c.ask.ensures.value in record {
      refusal_value = same ∙ number;
      past_value = λ z. at-state x.nv x.w a.i r.ms.now r.windows.now r.token_counts.now r.ops.now r.operands.now a.past x.n x.words.now a.answers.now c.requires.0 c.requires.1 q c.rule.ensures c.ranges.past.fits (sym number ∙ sym same ∙ z) told c.ask.ensures.value;
      k_after = λ z k l. at-answer x.nv x.w a.i r.ms.now r.windows.now r.token_counts.now r.ops.now r.operands.now a.past x.n x.words.now a.answers.now c.requires.0 c.requires.1 q c.rule.ensures c.ranges.past.fits (sym number ∙ sym same ∙ z) _ c.ask.ensures.answers_after k l;
    }
