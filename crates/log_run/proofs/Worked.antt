-- The cases of specs/Cases, by computing both sides. Assumes nothing.
use mathlib.Core.Path.{refl}
use Rattle.arrays.specs.Lists.{count_up}
use Rattle.arrays.specs.Parts.{part_at}
use Rattle.expr.specs.Formula.{token_of, token_at, tokens, step, run, only, whole, or_else, mark_alg, leaves_one, known, all_known, is_formula}
use Rattle.expr_eval.specs.Value.{value_alg, value_of}
use Rattle.rule_run.specs.Window.{mark_at, sum_below, ago, answer_to, state_after, answers_to, run_refusal}
use Rattle.log_rules.specs.Rules.{any_below, short_rules, bad_ranks, log_refusal}
use Rattle.log_rules.specs.Firing.{fires, seen, least_rank}
use Rattle.log_run.specs.Step.{stepped, log_after}
use Rattle.log_run.specs.Facts.{log_over, close_changes}
use Rattle.log_run.specs.Cases.{Cases}

pub cases : Cases
unfolding count_up part_at token_of token_at tokens step run only whole or_else mark_alg leaves_one known all_known is_formula value_alg value_of mark_at sum_below ago answer_to state_after answers_to run_refusal any_below short_rules bad_ranks log_refusal fires seen least_rank stepped log_after log_over close_changes
cases = record { greater = refl; both = refl; later = refl; none = refl; word = refl; shut = refl; capped = refl; close_capped = refl; nonsense = refl; no_rule = refl; rank_zero = refl; rank_nine = refl; equal = refl; range-first = refl; formula-first = refl; many-tokens = refl; record_short = refl; array_short = refl; width-first = refl; count-first = refl; first_close = refl; whole_run = refl; changes = refl }
