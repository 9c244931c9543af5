-- `simjaldek_abi::inner::slices::point_of` meets its contract: the part that is copied is the point's. Assumes nothing.
use mathlib.Core.Path.{ap, ◌∙◌}
use mathlib.Core.List.{List}
use Prim.Native.Nat.{ℕ}
use Rattle.arrays.proofs.Parts.{part_is}
use Rattle.probe_points.specs.declared.Point.{Point}
use Rattle.simjaldek_abi.proofs.inner.slices.point_of.Goals as goal

abbrev point : List ℕ → Point
point l = record { words = l }

pub returns : goal.returns
returns c =
    let s = c.args in
    ap point (c.copy_from_slice.ensures.after ∙ part_is 6 s.words.now s.k)
