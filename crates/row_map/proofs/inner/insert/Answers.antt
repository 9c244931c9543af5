-- `row_map::inner::insert` meets its contract: the link takes the old head, and the head takes slot n. Assumes nothing.
use native.Mathlib.Omega.{arith}
use lib.ListN.{length-set}
use Rattle.row_map.proofs.MapLaws.{chained_more}
use Rattle.row_map.proofs.inner.insert.Goals as goal

pub bounds-work-head-2 : goal.bounds-work-head-2
bounds-work-head-2 c =
    simp length-set (omega (arith, c.requires.link, c.requires.chain))

pub returns : goal.returns
returns c =
    let s = c.args in
    record { chained = λ home held e. rw c.heads.ensures (chained_more s.work.now home s.bits s.n s.home c.requires.link c.requires.chain e held) }
