-- `row_map::inner::clear` meets its contract: the heads are 0, and the rest is as it was. Assumes nothing.
use mathlib.Core.Path.{◌≡◌, ap, ap₂, ◌∙◌}
use mathlib.Core.List.{List, ◌++◌}
use Prim.Native.Nat.{ℕ, ◌^◌}
use native.Mathlib.Omega.{arith}
use lib.ListN.{length, take, drop, replicate}
use Rattle.std.proofs.Common.{length-take-le}
use Rattle.row_map.specs.Map.{cleared}
use Rattle.row_map.proofs.inner.clear.Goals as goal

pub returns : goal.returns
unfolding cleared
returns c =
    let a = c.args in
    let long : length (take c.heads.result a.work.now) ≡ 2 ^ a.bits
    = length-take-le c.heads.result a.work.now (omega (arith, c.heads.ensures, c.requires.1)) ∙ c.heads.ensures in
    ap₂ (λ (x y : List ℕ). x ++ y) (c.fill.ensures.after (λ y e. e) ∙ ap (λ (n : ℕ). replicate n 0) long) (ap (λ (n : ℕ). drop n a.work.now) c.heads.ensures)
