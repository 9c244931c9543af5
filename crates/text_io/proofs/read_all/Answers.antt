-- `text_io::read_all` meets its contract: p has read what the reader had left and hasn't any more. Assumes nothing.
use Rattle.text_io.proofs.Progress.{read_more}
use Rattle.text_io.proofs.read_all.Goals as goal

pub loop-preserved : goal.loop-preserved
loop-preserved g c = read_more c.loop.invariant c.in_ok-q.ensures c.in-Some.is
