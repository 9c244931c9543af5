-- `simjaldek_abi::inner::replies::of_points` meets its contract: the points copied and those still to come are the sixteen. Assumes nothing.
use mathlib.Core.Path.{◌≡◌, refl, sym, ap, ◌∙◌}
use mathlib.Core.List.{List, ◌++◌, map, append-nil}
use Prim.Native.Nat.{ℕ, ◌≤◌}
use lib.ListN.{length, take, drop, length-set, drop_of_length-le}
use lib.Seq.{take_all}
use Rattle.probe_points.specs.declared.Point.{Point}
use Rattle.simjaldek_abi.specs.Reply.{point_words}
use Rattle.simjaldek_abi.proofs.Loading.{words_more}
use borrow.Author.Rules.{rules}
use native.Mathlib.Omega.{arith}
use Rattle.simjaldek_abi.proofs.inner.replies.of_points.Goals as goal

pub loop-k-init : goal.loop-k-init
loop-k-init c = (refl, refl)

pub loop-k-preserved : goal.loop-k-preserved
loop-k-preserved c =
    let l = c.loop-k in
    let long : length c.args.made ≡ 16 = search rules in
    (length-set l.points l.k _ ∙ l.invariant.0, words_more c.args.made l.k l.points _ _ (omega arith) l.invariant.0 long refl ∙ l.invariant.1)

pub returns : goal.returns
returns c =
    let l = c.loop-k in
    let long : length c.args.made ≡ 16 = search rules in
    let z : l.k ≡ 16 = omega arith in
    let end : length c.args.made ≤ 16 = omega arith in
    sym (take_all 16 l.points (omega arith))
    ∙ sym (append-nil (take 16 l.points))
    ∙ ap (λ (x : List Point). take 16 l.points ++ map point_words x) (sym (drop_of_length-le c.args.made end))
    ∙ ap (λ (k : ℕ). take k l.points ++ map point_words (drop k c.args.made)) (sym z)
    ∙ l.invariant.1
