-- `log_run::inner::note` meets its contract. Assumes nothing.
use Rattle.log_run.proofs.Stepping.{noted-none, noted_close, noted-later}
use Rattle.log_run.proofs.inner.note.Goals as goal

pub returns-then-rank-ge-NO_RANK : goal.returns-then-rank-ge-NO_RANK
returns-then-rank-ge-NO_RANK c = let a = c.args in noted-none a.rank a.shown c.one_more-number.result c.one_more-number.ensures c.if-rank-ge-NO_RANK.true

pub returns-then-shown-eq0 : goal.returns-then-shown-eq0
returns-then-shown-eq0 c = let a = c.args in noted_close a.rank a.shown c.one_more-number.result c.one_more-number.ensures c.if-rank-ge-NO_RANK.false c.if-shown-eq0.true

pub returns : goal.returns
returns c = let a = c.args in noted-later a.rank a.shown c.one_more-number.result c.one_more-number.ensures c.if-rank-ge-NO_RANK.false c.if-shown-eq0.false c.one_more-later.result c.one_more-later.ensures
