-- The cases of specs/Cases, by computing. Assumes nothing.
use mathlib.Core.Path.{refl}
use mathlib.Core.List.{flat_map}
use Rattle.arrays.specs.Lists.{count_up, keep}
use Rattle.probe_points.specs.Points.{next_state, word_of}
use Rattle.expr.specs.Formula.{token_of, arity}
use Rattle.text_parse.specs.Text.{with_word, words_after, words_of, all_digits, value_after, value_of, is_number, before, numbers_of, load_many, if_many, read_text}
use Rattle.text_print.specs.Text.{digits_of, decimal, token_text, tokens_text, formula_line, refused_line, answer_of}
use Rattle.load_draw.specs.Draw.{can_leave_one, may_pick, choices, picked_by, token_from, state_from, rest_from, formula_from, load_from}
use Rattle.load_text.specs.Text.{load_refusal, lines_from, load_text}
use Rattle.load_spec.specs.Cases.{Cases}

pub cases : Cases
unfolding can_leave_one may_pick choices picked_by token_from state_from rest_from formula_from load_from next_state word_of token_of arity count_up keep with_word words_after words_of all_digits value_after value_of is_number before numbers_of load_many if_many read_text digits_of decimal token_text tokens_text formula_line refused_line answer_of load_refusal lines_from load_text flat_map
cases = record {
  none = refl;
  last = refl;
  one = refl;
  all = refl;
  narrow = refl;
  gates = refl;
  first = refl;
  second = refl;
  fourth = refl;
  three = refl;
  one-variable = refl;
  one_token = refl;
  one_bit = refl;
  lines = refl;
  count-first = refl;
  four_numbers = refl;
}
