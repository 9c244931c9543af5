-- `probe_points::draw_points` meets its contract: the points made and those still to come are the sixteen. Assumes nothing.
use Rattle.std.proofs.Common.{◌≡◌, ◌-◌, ◌++◌, length, take}
use Rattle.probe_points.specs.Points.{points_from, probe_points}
use Rattle.probe_points.proofs.draw_points.Given as goal

abbrev pub invariant-loop-k : goal.invariant-loop-k
invariant-loop-k l = (length l.points ≡ 16) × (take l.k l.points ++ points_from l.nv l.w (16 - l.k) l.state ≡ probe_points l.nv l.w)
