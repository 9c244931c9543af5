-- `rule_run::inner::run` meets its contract: rows, then the rest. Assumes nothing.
use Rattle.std.proofs.Common.{◌*◌, ◌/◌, arith}
use Rattle.rule_run.specs.Lent.{tokens_of, marks}
use Rattle.rule_run.proofs.Feeding.{fed_start, marks-low, ready_less}
use Rattle.rule_run.proofs.inner.run.Goals as goal

pub run_rows-bits-requires : goal.run_rows-bits-requires
run_rows-bits-requires c =
    let a = c.args in
    let r = a.rule.now in
    let x = a.records.now in
    (ready_less x.nv x.w r.token_count r.ops.now r.operands.now r.m r.window x.n (16 * (x.n / 16)) x.words.now (omega arith) c.requires.0, omega (arith, c.requires.1))

pub overflow_mul-at : goal.overflow_mul-at
overflow_mul-at c = omega arith

pub run_rest-requires : goal.run_rest-requires
run_rest-requires c = (c.requires.0, (omega arith, omega (arith, c.requires.1, c.run_rows-bits.auto.answers)))

pub returns : goal.returns
returns c =
    let a = c.args in
    let r = a.rule.now in
    let x = a.records.now in
    let ts = tokens_of r in
    c.run_rest.ensures a.past a.answers.now
    (c.run_rows-bits.ensures a.past a.answers.now
    (fed_start (marks r x) a.past r.m r.window a.answers.now (marks-low x.nv x.w ts x.words.now) c.ranges.past.fits))
