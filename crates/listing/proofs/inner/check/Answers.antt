-- `listing::inner::check` meets its contract: the conditions in the table's order. Assumes nothing.
use mathlib.Core.Path.{sym, ◌∙◌}
use borrow.Author.Tests.{lt-ltb, le-ltb}
use Rattle.listing.proofs.Refusing.{number_1, number_2, number_3, number-last, in_range}
use Rattle.listing.proofs.inner.check.Goals as goal

pub returns-then-outside : goal.returns-then-outside
returns-then-outside c = sym (number_1 c.args.numbers (sym c.outside.ensures ∙ c.if-outside.true))

pub returns-then-outside-2 : goal.returns-then-outside-2
returns-then-outside-2 c =
    sym (number_2 c.args.numbers (sym c.outside.ensures ∙ c.if-outside.false) (sym c.outside-2.ensures ∙ c.if-outside-2.true))

pub returns-then-numbers-gt-LIMIT_MAX : goal.returns-then-numbers-gt-LIMIT_MAX
returns-then-numbers-gt-LIMIT_MAX c =
    sym (number_3 c.args.numbers (sym c.outside.ensures ∙ c.if-outside.false) (sym c.outside-2.ensures ∙ c.if-outside-2.false) (lt-ltb _ _ c.if-numbers-gt-LIMIT_MAX.true))

pub check_reach-requires : goal.check_reach-requires
check_reach-requires c =
    in_range c.args.numbers (sym c.outside.ensures ∙ c.if-outside.false) (sym c.outside-2.ensures ∙ c.if-outside-2.false) (le-ltb _ _ c.if-numbers-gt-LIMIT_MAX.false)

pub returns : goal.returns
returns c =
    c.check_reach.ensures
    ∙ sym (number-last c.args.numbers (sym c.outside.ensures ∙ c.if-outside.false) (sym c.outside-2.ensures ∙ c.if-outside-2.false) (le-ltb _ _ c.if-numbers-gt-LIMIT_MAX.false))
