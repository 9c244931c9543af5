-- `text_parse::close` meets its contract: the word begun is a number, and the numbers done have it as their last. Assumes nothing.
use Rattle.std.proofs.Common.{refl, arith}
use Rattle.text_parse.proofs.Readings.{closed}
use Rattle.text_parse.proofs.close.Goals as goal

pub returns : goal.returns
returns c =
    closed _ _ c.requires.0 c.requires.1 (omega arith) c.keep.ensures refl refl refl refl
