-- `rule_run::run_rule` meets its contract: refused, nothing changes; else what `run` answers and leaves. Assumes nothing.
use Rattle.std.proofs.Common.{ℕ, sym, refl, ap, ◌∙◌}
use Rattle.rule_run.specs.Window.{Ran, ran_or}
use Rattle.rule_run.specs.Lent.{marks}
use Rattle.rule_run.proofs.Feeding.{ready, ran-answered}
use Rattle.rule_run.proofs.run_rule.Goals as goal

pub run-past-requires : goal.run-past-requires
run-past-requires c =
    let a = c.args in
    let r = a.rule.now in
    let x = a.records.now in
    ready x.nv x.w r.token_count r.ops.now r.operands.now r.m r.window x.n x.words.now a.answers.now (sym c.in_ok-check.ensures)

pub returns : goal.returns
returns c =
    let a = c.args in
    let r = a.rule.now in
    let x = a.records.now in
    let mark = marks r x in
    let e = sym (ran-answered mark r.m r.window a.state x.n a.answers.now 0 refl c.run-past.result _ c.run-past.ensures) ∙ ap (λ (k : ℕ). ran_or k mark r.m r.window a.state x.n a.answers.now) c.in_ok-check.ensures in record {
      value = ap (λ (y : Ran). y.reply) e;
      answers_after = ap (λ (y : Ran). y.answers) e;
    }
