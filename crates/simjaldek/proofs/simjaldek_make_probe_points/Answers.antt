-- `simjaldek_make_probe_points` meets its contract: the points that the call makes. Assumes nothing.
use mathlib.Core.Path.{ap, ◌∙◌}
use mathlib.Core.List.{List}
use Prim.Native.Nat.{ℕ}
use Rattle.simjaldek_abi.specs.declared.PointWords.{PointWords}
use Rattle.simjaldek_abi.specs.declared.PointsReply.{PointsReply}
use Rattle.simjaldek_abi.specs.Reply.{points_reply}
use Rattle.simjaldek.proofs.simjaldek_make_probe_points.Goals as goal

abbrev points_beside : ℕ → List PointWords → PointsReply
points_beside number ps = record { refusal = number; points = ps }

pub returns : goal.returns
returns c =
    let m = c.make_probe_points-x in
    ap (λ (ps : List PointWords). points_beside m.result.refusal ps) c.of_points-points.ensures ∙ ap points_reply m.ensures
