-- `probe_points::draw_point` meets its contract: after i turns the first i words are drawn and the rest are 0. Assumes nothing.
use Rattle.std.proofs.Common.{◌≡◌, ◌-◌, ◌++◌, replicate}
use Rattle.probe_points.specs.Points.{state_after, words_from}
use Rattle.probe_points.proofs.draw_point.Given as goal

abbrev pub invariant-loop-i : goal.invariant-loop-i
invariant-loop-i l = (l.s ≡ state_after l.i l.state) × (l.words ≡ words_from l.w l.i l.state ++ replicate (6 - l.i) 0)
