-- `probe_points::draw_points` meets its contract: the points made and those still to come are the sixteen. Assumes nothing.
use Rattle.std.proofs.Common.{◌≡◌, ℕ, ◌-◌, ◌++◌, take, sym, refl, ap, ◌∙◌, append-nil, arith, length-set, take_all}
use Rattle.probe_points.specs.Points.{points_from, probe_points}
use Rattle.probe_points.proofs.Draws.{point-more}
use Rattle.probe_points.proofs.draw_points.Goals as goal

pub loop-k-init : goal.loop-k-init
unfolding probe_points
loop-k-init c = (refl, refl)

pub loop-k-preserved : goal.loop-k-preserved
loop-k-preserved c =
    let a = c.args in
    let l = c.loop-k in
    let d = c.draw_point-d in (
      length-set l.points l.k d.result.point ∙ l.invariant.0,
      point-more a.nv a.w l.k l.points d.result.point l.state d.result.state (omega arith) l.invariant.0 d.ensures.point d.ensures.state ∙ l.invariant.1,
    )

pub returns : goal.returns
unfolding points_from
returns c =
    let a = c.args in
    let l = c.loop-k in
    let z : l.k ≡ 16 = omega arith in
    sym (take_all 16 l.points (omega arith))
    ∙ sym (append-nil (take 16 l.points))
    ∙ ap (λ (k : ℕ). take k l.points ++ points_from a.nv a.w (16 - k) l.state) (sym z)
    ∙ l.invariant.1
