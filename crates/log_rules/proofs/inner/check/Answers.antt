-- `log_rules::inner::check` meets its contract: each test is that of its number. Assumes nothing.
use mathlib.Core.Path.{sym, ◌∙◌}
use borrow.Author.Tests.{lt-ltb, le-ltb}
use Prim.Native.Nat.{◌≤◌}
use lib.ListN.{length}
use Rattle.limits.proofs.Refusals.{or_here, or_later, within, parts_few}
use Rattle.log_rules.specs.Lent.{rules_of}
use Rattle.log_rules.proofs.Tests.{lent_1, lent_2, lent_4, lent_none}
use borrow.Author.Rules.{rules}
use Rattle.log_rules.proofs.inner.check.Goals as goal

pub returns-then-bad_count : goal.returns-then-bad_count
returns-then-bad_count c = let a = c.args in let x = a.records.now in lent_1 x.nv x.w (rules_of a.rules.now) x.n x.words.now (sym c.bad_count.ensures ∙ c.if-bad_count.true)

pub returns-then-bad_width : goal.returns-then-bad_width
returns-then-bad_width c = let a = c.args in let x = a.records.now in lent_2 x.nv x.w (rules_of a.rules.now) x.n x.words.now (sym c.bad_count.ensures ∙ c.if-bad_count.false) (sym c.bad_width.ensures ∙ c.if-bad_width.true)

pub returns-then-short_rules : goal.returns-then-short_rules
returns-then-short_rules c = let a = c.args in let x = a.records.now in lent_4 x.nv x.w (rules_of a.rules.now) x.n x.words.now (sym c.bad_count.ensures ∙ c.if-bad_count.false) (sym c.bad_width.ensures ∙ c.if-bad_width.false) (or_here _ (sym c.short_rules.ensures ∙ c.if-short_rules.true))

pub nonzero_div-records : goal.nonzero_div-records
nonzero_div-records c =
    let some : 1 ≤ c.args.records.now.nv
    = (within 1 6 c.args.records.now.nv (sym c.bad_count.ensures ∙ c.if-bad_count.false)).least in
    let low = some in search rules

pub returns-then-records : goal.returns-then-records
returns-then-records c =
    let some : 1 ≤ c.args.records.now.nv
    = (within 1 6 c.args.records.now.nv (sym c.bad_count.ensures ∙ c.if-bad_count.false)).least in
    let a = c.args in let x = a.records.now in lent_4 x.nv x.w (rules_of a.rules.now) x.n x.words.now (sym c.bad_count.ensures ∙ c.if-bad_count.false) (sym c.bad_width.ensures ∙ c.if-bad_width.false) (or_later (sym c.short_rules.ensures ∙ c.if-short_rules.false) (sym (parts_few (length x.words.now) x.nv x.n some) ∙ lt-ltb _ x.n c.if-records.true))

pub returns : goal.returns
returns c =
    let some : 1 ≤ c.args.records.now.nv
    = (within 1 6 c.args.records.now.nv (sym c.bad_count.ensures ∙ c.if-bad_count.false)).least in
    let a = c.args in let x = a.records.now in lent_none x.nv x.w (rules_of a.rules.now) x.n x.words.now (sym c.bad_count.ensures ∙ c.if-bad_count.false) (sym c.bad_width.ensures ∙ c.if-bad_width.false) (or_later (sym c.short_rules.ensures ∙ c.if-short_rules.false) (sym (parts_few (length x.words.now) x.nv x.n some) ∙ le-ltb _ x.n c.if-records.false))
