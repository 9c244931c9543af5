-- `load_text::inner::check` meets its contract: the conditions in the table's order. Assumes nothing.
use mathlib.Core.Path.{sym, ◌∙◌}
use lib.ListN.{get_or}
use Rattle.load_text.proofs.Refusing.{number_1, number_2, number_6, number-none}
use Rattle.load_text.proofs.inner.check.Goals as goal

pub returns-then-outside : goal.returns-then-outside
returns-then-outside c = number_1 (get_or c.args.numbers 1 0) (get_or c.args.numbers 2 0) (get_or c.args.numbers 3 0) (sym c.outside.ensures ∙ c.if-outside.true)

pub returns-then-outside-2 : goal.returns-then-outside-2
returns-then-outside-2 c = number_2 (get_or c.args.numbers 1 0) (get_or c.args.numbers 2 0) (get_or c.args.numbers 3 0) (sym c.outside.ensures ∙ c.if-outside.false) (sym c.outside-2.ensures ∙ c.if-outside-2.true)

pub returns-then-outside-3 : goal.returns-then-outside-3
returns-then-outside-3 c = number_6 (get_or c.args.numbers 1 0) (get_or c.args.numbers 2 0) (get_or c.args.numbers 3 0) (sym c.outside.ensures ∙ c.if-outside.false) (sym c.outside-2.ensures ∙ c.if-outside-2.false) (sym c.outside-3.ensures ∙ c.if-outside-3.true)

pub returns : goal.returns
returns c = number-none (get_or c.args.numbers 1 0) (get_or c.args.numbers 2 0) (get_or c.args.numbers 3 0) (sym c.outside.ensures ∙ c.if-outside.false) (sym c.outside-2.ensures ∙ c.if-outside-2.false) (sym c.outside-3.ensures ∙ c.if-outside-3.false)
