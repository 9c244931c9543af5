-- `load_draw::inner::draw_tokens` meets its contract: token after token, from the left. Assumes nothing.
use mathlib.Core.Path.{◌≡◌, refl, ap, ◌∙◌}
use Prim.Native.Nat.{◌-◌, ◌≤◌, ◌<◌}
use lib.ListN.{set, length-set}
use Rattle.probe_points.specs.declared.Draw.{Draw}
use Rattle.expr.specs.Formula.{operand_of}
use Rattle.load_draw.specs.Draw.{drawn_word, takes, picked_by, token_from, state_from}
use Rattle.load_draw.proofs.Drawing.{stage_start, stage_can, stage_below, stage_takes, stage_next, stage_state, stage_ops, stage_operands}
use native.Mathlib.Omega.{arith}
use borrow.Author.Rules.{rules}
use Rattle.load_draw.proofs.inner.draw_tokens.Goals as goal

pub loop-i-init : goal.loop-i-init
loop-i-init c = let a = c.args in ((refl, refl), stage_start a.nv a.w a.count a.state a.ops.now a.operands.now)

pub pick-o-requires : goal.pick-o-requires
pick-o-requires c = let l = c.loop-i in let a = c.args in
    (stage_can a.nv a.w a.count a.state a.ops.now a.operands.now l.ops l.operands l.s l.depth l.i l.invariant.1 (omega arith), omega arith)

pub put_operand-s-requires : goal.put_operand-s-requires
put_operand-s-requires c =
    let picked : c.pick-o.result ≡ picked_by c.loop-i.depth (c.args.count - c.loop-i.i - 1) (drawn_word c.loop-i.s)
    = let l = c.loop-i in let a = c.args in
    c.pick-o.ensures ∙ ap (λ (d : Draw). picked_by l.depth (a.count - l.i - 1) d.word) c.splitmix64-x.ensures in
    let below : c.pick-o.result < 9
    = let l = c.loop-i in let a = c.args in
    stage_below a.nv a.w a.count a.state a.ops.now a.operands.now l.ops l.operands l.s l.depth l.i l.invariant.1 (omega arith) c.pick-o.result picked in
    let b = below in search rules

pub takes_of-requires : goal.takes_of-requires
takes_of-requires c =
    let picked : c.pick-o.result ≡ picked_by c.loop-i.depth (c.args.count - c.loop-i.i - 1) (drawn_word c.loop-i.s)
    = let l = c.loop-i in let a = c.args in
    c.pick-o.ensures ∙ ap (λ (d : Draw). picked_by l.depth (a.count - l.i - 1) d.word) c.splitmix64-x.ensures in
    let below : c.pick-o.result < 9
    = let l = c.loop-i in let a = c.args in
    stage_below a.nv a.w a.count a.state a.ops.now a.operands.now l.ops l.operands l.s l.depth l.i l.invariant.1 (omega arith) c.pick-o.result picked in
    below

pub overflow_sub-depth : goal.overflow_sub-depth
overflow_sub-depth c =
    let picked : c.pick-o.result ≡ picked_by c.loop-i.depth (c.args.count - c.loop-i.i - 1) (drawn_word c.loop-i.s)
    = let l = c.loop-i in let a = c.args in
    c.pick-o.ensures ∙ ap (λ (d : Draw). picked_by l.depth (a.count - l.i - 1) d.word) c.splitmix64-x.ensures in
    let takes-few : takes c.pick-o.result ≤ c.loop-i.depth
    = let l = c.loop-i in let a = c.args in
    stage_takes a.nv a.w a.count a.state a.ops.now a.operands.now l.ops l.operands l.s l.depth l.i l.invariant.1 (omega arith) c.pick-o.result picked in
    omega (arith, c.takes_of.ensures, takes-few)

pub loop-i-preserved : goal.loop-i-preserved
loop-i-preserved c =
    let picked : c.pick-o.result ≡ picked_by c.loop-i.depth (c.args.count - c.loop-i.i - 1) (drawn_word c.loop-i.s)
    = let l = c.loop-i in let a = c.args in
    c.pick-o.ensures ∙ ap (λ (d : Draw). picked_by l.depth (a.count - l.i - 1) d.word) c.splitmix64-x.ensures in
    let takes-few : takes c.pick-o.result ≤ c.loop-i.depth
    = let l = c.loop-i in let a = c.args in
    stage_takes a.nv a.w a.count a.state a.ops.now a.operands.now l.ops l.operands l.s l.depth l.i l.invariant.1 (omega arith) c.pick-o.result picked in
    let l = c.loop-i in let a = c.args in
    let drew = c.splitmix64-x.ensures in (
      (length-set l.ops l.i c.pick-o.result ∙ l.invariant.0.0, search rules),
      stage_next a.nv a.w a.count a.state a.ops.now a.operands.now l.ops l.operands l.s l.depth l.i l.invariant.1 (omega arith) c.pick-o.result picked
          _ _ _
          (c.put_operand-s.ensures.value ∙ ap (λ (x : Draw). state_from c.pick-o.result x.state) drew)
          (omega (arith, c.takes_of.ensures, takes-few))
          (c.put_operand-s.ensures.operands_after ∙ ap (λ (x : Draw). set l.operands l.i (operand_of (token_from a.nv a.w c.pick-o.result x.state))) drew)
          (omega arith)
          (omega arith),
    )

pub returns : goal.returns
returns c = let l = c.loop-i in let a = c.args in record {
  value = stage_state a.nv a.w a.count a.state a.ops.now a.operands.now l.ops l.operands l.s l.depth l.i l.invariant.1 (omega arith);
  ops_after = stage_ops a.nv a.w a.count a.state a.ops.now a.operands.now l.ops l.operands l.s l.depth l.i l.invariant.1 (omega arith);
  operands_after = stage_operands a.nv a.w a.count a.state a.ops.now a.operands.now l.ops l.operands l.s l.depth l.i l.invariant.1 (omega arith);
}
