-- `load::run` writes what the program answers to the text that it reads. Assumes nothing.
use Rattle.load.proofs.Progress.{answers}
use Rattle.load.proofs.run.Goals as goal

pub returns : goal.returns
returns g c = answers c.write_load.result (g.R.Read.remaining c.args.reader.now) (g.W.Write.contents c.args.writer.now) (g.W.Write.contents c.write_load.new.writer) c.in_ok-p.ensures c.start.ensures c.write_load.ensures
