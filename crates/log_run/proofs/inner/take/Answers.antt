-- `log_run::inner::take` meets its contract: what is lent, then the rules and the records. Assumes nothing.
use mathlib.Core.Path.{ap, sym, ◌∙◌}
use borrow.Author.Tests.{ltb-true, not-true}
use lib.Dec.{ltb}
use Rattle.limits.proofs.Refusals.{and_left, and_right}
use Rattle.log_rules.specs.Lent.{rules_of}
use Rattle.log_rules.proofs.Tests.{lends, ranked}
use Rattle.limits.specs.Refusal.{refusal_of, number_of}
use native.Mathlib.Omega.{arith}
use Rattle.limits.proofs.Answers.{number-positive}
use Rattle.log_run.specs.declared.Log.{Log}
use Rattle.log_run.proofs.Stepping.{logged_lent, logged-ran, logged_tested, took_ruled, took_none}
use Rattle.log_run.proofs.inner.take.Goals as goal

pub returns-in-Err : goal.returns-in-Err
returns-in-Err c =
    let a = c.args in
    let x = a.records.now in
    let l : Log = record { windows = a.seen.now; shown = a.shown; begun = a.begun } in
    sym (took_none l (number_of c.in-Err.refusal)) ∙ logged_lent x.nv x.w (rules_of a.rules.now) l x.n x.words.now (number_of c.in-Err.refusal) (sym (ap refusal_of c.in-Err.is) ∙ c.check.ensures) (λ z. let p = number-positive c.in-Err.refusal in omega (arith, p, z))

pub feeds-requires : goal.feeds-requires
feeds-requires c =
    let a = c.args in
    let x = a.records.now in
    (lends x.nv x.w (rules_of a.rules.now) x.n x.words.now (sym c.check.ensures ∙ ap refusal_of c.in-Ok.is)).ranks

pub run-requires : goal.run-requires
run-requires c =
    let a = c.args in
    let x = a.records.now in
    let e = sym c.feeds.ensures ∙ c.if-feeds.true in
    let f = and_right a.begun _ e in
    let ranks = not-true _ (and_right (ltb 0 x.n) _ f) in record {
      lends = (lends x.nv x.w (rules_of a.rules.now) x.n x.words.now (sym c.check.ensures ∙ ap refusal_of c.in-Ok.is), (ranked (rules_of a.rules.now) ranks, c.requires));
      le_n = ltb-true 0 x.n (and_left (ltb 0 x.n) _ f);
    }

pub returns-then-feeds : goal.returns-then-feeds
returns-then-feeds c =
    let a = c.args in
    let x = a.records.now in
    let e = sym c.feeds.ensures ∙ c.if-feeds.true in
    let f = and_right a.begun _ e in
    let ranks = not-true _ (and_right (ltb 0 x.n) _ f) in
    took_ruled (record { windows = a.seen.now; shown = a.shown; begun = a.begun }) _ _ x.nv x.w (rules_of a.rules.now) x.n x.words.now (and_left a.begun _ e) c.run.ensures ∙ logged-ran x.nv x.w (rules_of a.rules.now) (record { windows = a.seen.now; shown = a.shown; begun = a.begun }) x.n x.words.now (sym c.check.ensures ∙ ap refusal_of c.in-Ok.is) ranks

pub check_rules-requires : goal.check_rules-requires
check_rules-requires c =
    let a = c.args in
    let x = a.records.now in
    lends x.nv x.w (rules_of a.rules.now) x.n x.words.now (sym c.check.ensures ∙ ap refusal_of c.in-Ok.is)

pub returns-in-Ok-check_rules : goal.returns-in-Ok-check_rules
returns-in-Ok-check_rules c =
    let a = c.args in
    let x = a.records.now in
    let l : Log = record { windows = a.seen.now; shown = a.shown; begun = a.begun } in
    sym (took_none l 0) ∙ logged_tested x.nv x.w (rules_of a.rules.now) l x.n x.words.now (sym c.check.ensures ∙ ap refusal_of c.in-Ok.is) (sym c.feeds.ensures ∙ c.if-feeds.false) 0 (sym (ap refusal_of c.in-Ok-check_rules.is) ∙ c.check_rules.ensures)

pub returns-in-Err-check_rules : goal.returns-in-Err-check_rules
returns-in-Err-check_rules c =
    let a = c.args in
    let x = a.records.now in
    let l : Log = record { windows = a.seen.now; shown = a.shown; begun = a.begun } in
    sym (took_none l (number_of c.in-Err-check_rules.refusal)) ∙ logged_tested x.nv x.w (rules_of a.rules.now) l x.n x.words.now (sym c.check.ensures ∙ ap refusal_of c.in-Ok.is) (sym c.feeds.ensures ∙ c.if-feeds.false) (number_of c.in-Err-check_rules.refusal) (sym (ap refusal_of c.in-Err-check_rules.is) ∙ c.check_rules.ensures)
