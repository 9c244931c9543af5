-- `index_trial::inner::put_pair` meets its contract: the pair's own three words are lent. Assumes nothing.
use mathlib.Core.Path.{ap, ◌∙◌}
use Rattle.arrays.specs.Parts.{put_part}
use Rattle.arrays.proofs.Parts.{put_is}
use Rattle.index_trial.proofs.inner.put_pair.Goals as goal

pub returns : goal.returns
returns c =
    put_is 3 c.args.pairs.now c.args.n.0 _ ∙ ap (put_part 3 c.args.pairs.now c.args.n.0) c.write_pair.ensures
