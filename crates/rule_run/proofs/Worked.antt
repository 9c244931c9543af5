-- The cases of specs/Cases, by computing. Assumes nothing.
use Rattle.std.proofs.Common.{refl}
use Rattle.arrays.specs.Lists.{count_up}
use Rattle.arrays.specs.Parts.{part_at}
use Rattle.expr.specs.Formula.{token_of, token_at, tokens, step, run, only, whole, or_else, mark_alg, leaves_one, known, all_known, is_formula}
use Rattle.expr_eval.specs.Value.{value_alg, value_of}
use Rattle.rule_run.specs.Window.{mark_at, sum_below, ago, answer_to, state_after, answers_to, run_refusal}
use Rattle.rule_run.specs.Facts.{state_over, answers_over}
use Rattle.rule_run.specs.Cases.{Cases}

pub cases : Cases
unfolding count_up part_at token_of token_at tokens step run only whole or_else mark_alg leaves_one known all_known is_formula value_alg value_of mark_at sum_below ago answer_to state_after answers_to run_refusal state_over answers_over
cases = record { window = refl; before-first = refl; stride = refl; continued = refl; too_far_back = refl; all_but_one = refl; oldest_gone = refl; all_ones = refl; no_record = refl; m_zero = refl; m_over = refl; w_zero = refl; w_65 = refl; six_first = refl; word_missing = refl; answer_missing = refl; width-first = refl; count-first = refl; answers_over_lem = refl; state_over_lem = refl }
