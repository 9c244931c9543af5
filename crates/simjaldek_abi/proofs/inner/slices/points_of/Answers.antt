-- `simjaldek_abi::inner::slices::points_of` meets its contract: the points loaded and those still to come are the sixteen. Assumes nothing.
use mathlib.Core.Path.{◌≡◌, refl, sym, ap, ◌∙◌}
use mathlib.Core.List.{◌++◌, append-nil}
use Prim.Native.Nat.{ℕ, ◌-◌}
use lib.ListN.{take, length-set}
use lib.Seq.{take_all}
use Rattle.simjaldek_abi.specs.Slices.{points_from}
use Rattle.simjaldek_abi.proofs.Loading.{point-more}
use native.Mathlib.Omega.{arith}
use Rattle.simjaldek_abi.proofs.inner.slices.points_of.Goals as goal

pub loop-k-init : goal.loop-k-init
loop-k-init c = (refl, refl)

pub loop-k-preserved : goal.loop-k-preserved
loop-k-preserved c =
    let l = c.loop-k in
    let p = c.point_of in
    (length-set l.points l.k p.result ∙ l.invariant.0, point-more c.args.words.now l.k l.points p.result (omega arith) l.invariant.0 p.ensures ∙ l.invariant.1)

pub returns : goal.returns
unfolding points_from
returns c =
    let l = c.loop-k in
    let z : l.k ≡ 16 = omega arith in
    sym (take_all 16 l.points (omega arith))
    ∙ sym (append-nil (take 16 l.points))
    ∙ ap (λ (k : ℕ). take k l.points ++ points_from c.args.words.now k (16 - k)) (sym z)
    ∙ l.invariant.1
