-- `text_parse::finish` meets its contract: at the end all numbers are done, and `listing_many` of them is the test of `count` and the first. Assumes nothing.
use Rattle.text_parse.proofs.Readings.{ended, listing_follows}
use Rattle.text_parse.proofs.finish.Goals as goal

pub returns : goal.returns
returns c =
    ended _ _ _ _ c.end_text-q.ensures (listing_follows _ _ _ c.is_right-right.ensures) _ c.if_many.ensures
