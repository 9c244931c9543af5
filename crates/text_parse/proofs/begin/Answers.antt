-- `text_parse::begin` meets its contract: no number is done and no word is begun, so the text is all rest. Assumes nothing.
use Rattle.std.proofs.Common.{refl}
use Rattle.text_parse.proofs.Readings.{begun}
use Rattle.text_parse.proofs.begin.Goals as goal

pub returns : goal.returns
returns c = begun _ refl refl refl refl refl
