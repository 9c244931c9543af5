-- `index_trial::inner::Build::find_pair` meets its contract: the map has room. Assumes nothing.
use Rattle.index_trial.proofs.StepLaws.{pair_searchable}
use Rattle.index_trial.proofs.inner.Build.find_pair.Goals as goal

pub find_pair-requires-clause-bank_area_in_bounds : goal.find_pair-requires-clause-bank_area_in_bounds
find_pair-requires-clause-bank_area_in_bounds c =
    let s = c.args.self.now in
    pair_searchable s.job s.atoms.now s.work.now s.pairs.now s.listed.now c.args.n c.requires.ready
