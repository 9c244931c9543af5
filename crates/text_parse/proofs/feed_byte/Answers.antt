-- `text_parse::feed_byte` meets its contract: each kind of byte has its law in Readings.antt. Assumes nothing.
use Rattle.std.proofs.Common.{sym, ◌∙◌}
use Rattle.text_parse.proofs.Readings.{spoilt_stays, spoilt_by_byte}
use Rattle.text_parse.proofs.feed_byte.Goals as goal

pub returns-then-s : goal.returns-then-s
returns-then-s c = spoilt_stays _ c.args.b c.if-s.true

pub returns-then-is_parting : goal.returns-then-is_parting
returns-then-is_parting c =
    c.end_number.ensures.reads _ (sym c.is_parting.ensures ∙ c.if-is_parting.true)

pub lengthen-requires : goal.lengthen-requires
lengthen-requires c = sym c.is_digit.ensures ∙ c.if-is_digit.true

pub returns-then-is_digit : goal.returns-then-is_digit
returns-then-is_digit c =
    c.lengthen.ensures c.if-s.false c.args.numbers.now

pub returns : goal.returns
returns c =
    let other = sym c.is_parting.ensures ∙ c.if-is_parting.false in
    let letter = sym c.is_digit.ensures ∙ c.if-is_digit.false in
    spoilt_by_byte _ _ _ c.if-s.false c.spoil.ensures other letter
