-- `text_parse::end_text` meets its contract: a parting byte at the end changes no word, and after it all numbers are done. Assumes nothing.
use Rattle.text_parse.proofs.Readings.{at_end_of, at_end_spoilt}
use Rattle.text_parse.proofs.end_text.Goals as goal

pub returns-then-p : goal.returns-then-p
returns-then-p c = at_end_spoilt _ c.if-p.true

pub returns : goal.returns
returns c =
    at_end_of c.without_numbers.ensures c.with_numbers.ensures c.if-p.false c.end_number-s.ensures
