-- `search_candidates::collect_mul_probe0_candidates` meets its contract: refused as the table says, not used, or what solves is listed. Assumes nothing.
use mathlib.Core.Path.{sym, ◌∙◌}
use Rattle.search_equation.proofs.Solutions.{solved_class, solved_none}
use Rattle.search_candidates.proofs.Answering.{none-refused, none_collected, class_collected}
use Rattle.search_candidates.proofs.collect_mul_probe0_candidates.Goals as goal

pub returns-in_default : goal.returns-in_default
returns-in_default c =
    let a = c.args in
    let ok = sym c.in_ok-check.ensures in
    let is-used = sym c.is_used.ensures ∙ c.if-not-is_used.false in
    none_collected a.w a.pair_count a.pair_rows.now a.order.now a.p a.t a.candidates.now ok is-used (solved_none c.solve.ensures c.in_default.is)

pub returns : goal.returns
returns c =
    let a = c.args in
    let ok = sym c.in_ok-check.ensures in
    let is-used = sym c.is_used.ensures ∙ c.if-not-is_used.false in
    let passed = none-refused a.w a.pair_count a.pair_rows.now a.order.now a.p a.t a.candidates.now ok in
    let class = solved_class c.solve.ensures c.in-Some.is in
    class_collected a.w a.pair_count a.pair_rows.now a.order.now a.p a.t a.candidates.now ok is-used class passed.ordered _ c.collect-count.result c.collect-count.ensures
