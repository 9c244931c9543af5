-- `text_io::read_all` meets its contract: p has read what the reader had left and hasn't any more. Assumes nothing.
use Rattle.text_io.proofs.Progress.{HasRead}
use Rattle.text_io.proofs.read_all.Given as goal

abbrev pub invariant-loop : goal.invariant-loop
invariant-loop g l = HasRead (g.R.Read.remaining l.fn.reader) (g.R.Read.remaining l.reader) l.p
