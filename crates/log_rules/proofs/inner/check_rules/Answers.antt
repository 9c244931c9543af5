-- `log_rules::inner::check_rules` meets its contract: rule after rule. Assumes nothing.
use Rattle.limits.specs.Refusal.{refusal_of}
use mathlib.Core.Path.{refl, ap, ◌∙◌}
use Rattle.log_rules.specs.Lent.{rules_of}
use Rattle.log_rules.specs.Steps.{formulas_refusal}
use Rattle.log_rules.proofs.Tests.{numbers_none, numbers_more, numbers_ranks}
use borrow.Author.Rules.{rules}
use native.Mathlib.Omega.{arith}
use Rattle.log_rules.proofs.Asking.{lent_at}
use Rattle.log_rules.proofs.inner.check_rules.Goals as goal

pub loop-i-init : goal.loop-i-init
loop-i-init c = (refl, numbers_none c.args.records.now.nv _)

pub ask_at-x-requires : goal.ask_at-x-requires
ask_at-x-requires c =
    let x = c.args.records.now in
    (lent_at x.nv x.w c.loop-i.i 0 (rules_of c.args.rules.now) x.n x.words.now c.requires c.loop-i-test.true (omega arith), omega arith)

pub loop-i-preserved : goal.loop-i-preserved
loop-i-preserved c = let a = c.args in
    let l = c.loop-i in
    (omega (arith, c.ask_at-x.auto.answers, l.invariant.0), numbers_more a.records.now.nv (rules_of a.rules.now) l.i (refusal_of c.least_refusal-tested.result) (refusal_of l.tested) _ l.invariant.1 (c.test_of.ensures ∙ c.ask_at-x.ensures.refusal_value) c.least_refusal-tested.ensures)

pub returns : goal.returns
returns c = let a = c.args in
    let l = c.loop-i in
    numbers_ranks a.records.now.nv (rules_of a.rules.now) (refusal_of c.ranks_after.result) (refusal_of l.tested) (l.invariant.1 ∙ ap (formulas_refusal a.records.now.nv (rules_of a.rules.now)) (search rules)) c.ranks_after.ensures
