-- `text_parse::end_number` meets its contract: a number that is begun is closed; else the word is empty, and an empty word is none. Assumes nothing.
use Rattle.text_parse.proofs.Readings.{passed}
use Rattle.text_parse.proofs.end_number.Goals as goal

pub returns : goal.returns
returns c = passed _ c.if-s.false c.requires
