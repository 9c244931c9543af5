-- `log_rules::inner::ask_record_at` meets its contract: a rule has 64 places of each array. Assumes nothing.
use mathlib.Core.Path.{refl, sym, ap, ◌∙◌}
use mathlib.Core.List.{[], ◌∷◌}
use native.Mathlib.Omega.{arith}
use lib.Dec.{eqb}
use Rattle.rule_run.specs.Steps.{RecordReply}
use Rattle.log_rules.specs.Lent.{rule_of}
use Rattle.log_rules.proofs.Asking.{record-number, at-number, at-state, at-answer}
use Rattle.log_rules.proofs.inner.ask_record_at.Goals as goal

pub rule-requires : goal.rule-requires
rule-requires c = record {
  ms = c.requires.ms-there;
  windows = c.requires.windows-there;
  counts = c.requires.counts-there;
  ops = c.requires.ops-there;
  operands = c.requires.operands-there;
}

pub returns : goal.returns
returns c =
    let a = c.args in
    let r = a.rules.now in
    let q = rule_of c.rule.result in
    let e = c.ask_record.ensures in
    let same = record-number (record { past = a.past }) c.ask_record.result in
    let number = ap (λ (x : RecordReply). x.refusal) e ∙ at-number a.nv a.w a.i r.ms.now r.windows.now r.token_counts.now r.ops.now r.operands.now a.past 1 a.words.now (0 ∷ []) c.requires (omega arith) q c.rule.ensures _ refl in record {
      refusal_value = same ∙ number;
      past_value = λ z. ap (λ (x : RecordReply). x.state.past) e ∙ at-state a.nv a.w a.i r.ms.now r.windows.now r.token_counts.now r.ops.now r.operands.now a.past 1 a.words.now (0 ∷ []) c.requires (omega arith) q c.rule.ensures c.ranges.past.fits (sym number ∙ sym same ∙ z) _ refl;
      answer_value = λ z. ap (λ (x : RecordReply). eqb x.answer 1) e ∙ at-answer a.nv a.w a.i r.ms.now r.windows.now r.token_counts.now r.ops.now r.operands.now a.past 1 a.words.now (0 ∷ []) c.requires (omega arith) q c.rule.ensures c.ranges.past.fits (sym number ∙ sym same ∙ z) _ refl 0 (omega arith);
    }
