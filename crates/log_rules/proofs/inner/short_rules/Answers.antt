-- `log_rules::inner::short_rules` meets its contract: 64 places for each rule. Assumes nothing.
use Rattle.log_rules.specs.Lent.{rules_of}
use Rattle.log_rules.proofs.Tests.{short-ranks, short-ms, short-windows, short-counts, short-ops, short-operands}
use Rattle.log_rules.proofs.inner.short_rules.Goals as goal

pub returns-then-rules : goal.returns-then-rules
returns-then-rules c = let a = c.args in short-ranks (rules_of a.rules.now) c.if-rules.true

pub returns-then-rules-2 : goal.returns-then-rules-2
returns-then-rules-2 c = let a = c.args in short-ms (rules_of a.rules.now) c.if-rules.false c.if-rules-2.true

pub returns-then-rules-3 : goal.returns-then-rules-3
returns-then-rules-3 c = let a = c.args in short-windows (rules_of a.rules.now) c.if-rules.false c.if-rules-2.false c.if-rules-3.true

pub returns-then-rules-4 : goal.returns-then-rules-4
returns-then-rules-4 c = let a = c.args in short-counts (rules_of a.rules.now) c.if-rules.false c.if-rules-2.false c.if-rules-3.false c.if-rules-4.true

pub returns-then-rules-5 : goal.returns-then-rules-5
returns-then-rules-5 c = let a = c.args in short-ops (rules_of a.rules.now) c.if-rules.false c.if-rules-2.false c.if-rules-3.false c.if-rules-4.false c.if-rules-5.true

pub returns : goal.returns
returns c = let a = c.args in short-operands (rules_of a.rules.now) c.if-rules.false c.if-rules-2.false c.if-rules-3.false c.if-rules-4.false c.if-rules-5.false
