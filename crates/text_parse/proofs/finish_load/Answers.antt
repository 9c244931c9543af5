-- `text_parse::finish_load` meets its contract: at the end all numbers are done, and `load_many` of them is the test of `count`. Assumes nothing.
use Rattle.std.proofs.Common.{refl}
use Rattle.text_parse.proofs.Readings.{ended, load_follows}
use Rattle.text_parse.proofs.finish_load.Goals as goal

pub returns : goal.returns
returns c = ended _ _ _ _ c.end_text-q.ensures (λ ns e _. load_follows _ _ refl ns e) _ c.if_many.ensures
