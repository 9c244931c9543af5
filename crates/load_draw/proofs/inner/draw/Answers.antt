-- `load_draw::inner::draw` meets its contract: the length is drawn first. Assumes nothing.
use mathlib.Core.Path.{sym, ap, ◌∙◌}
use mathlib.Core.List.{map}
use Prim.Native.Nat.{◌<◌}
use native.Mathlib.Nat.{mod-lt}
use lib.ListN.{length}
use Rattle.expr.specs.Formula.{opcode_of, operand_of}
use Rattle.arrays.specs.Lists.{laid}
use Rattle.load_draw.specs.Draw.{Drawn}
use Rattle.load_draw.proofs.Drawing.{rest-length, whole, drew}
use Rattle.load_draw.proofs.Refusing.{ready_less}
use native.Mathlib.Omega.{arith}
use Rattle.load_draw.proofs.inner.draw.Goals as goal

pub overflow_add-count : goal.overflow_add-count
overflow_add-count c =
    let limited : 0 < c.args.limit
    = omega (arith, c.requires.least) in
    omega (arith, mod-lt c.splitmix64-first.result.word limited)

pub draw_tokens-last-requires : goal.draw_tokens-last-requires
draw_tokens-last-requires c =
    let limited : 0 < c.args.limit
    = omega (arith, c.requires.least) in
    let a = c.args in let m = mod-lt c.splitmix64-first.result.word limited in ready_less a.nv a.w a.limit _ a.ops.now a.operands.now c.requires (omega arith) (omega (arith, m))

pub returns : goal.returns
returns c = let x = c.splitmix64-first in let a = c.args in
    let is = whole a.nv a.w a.limit a.state x.result x.ensures in record {
      value = drew a.nv a.w a.limit a.state _ _ (sym (rest-length a.nv a.w _ 0 x.result.state) ∙ ap (λ (k : Drawn). length k.form) is) (c.draw_tokens-last.ensures.value ∙ ap (λ (k : Drawn). k.state) is);
      ops_after = c.draw_tokens-last.ensures.ops_after ∙ ap (λ (k : Drawn). laid (map opcode_of k.form) a.ops.now) is;
      operands_after = c.draw_tokens-last.ensures.operands_after ∙ ap (λ (k : Drawn). laid (map operand_of k.form) a.operands.now) is;
    }
