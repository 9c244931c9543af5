-- `load_text::inner::write_lines` meets its contract: line after line. Assumes nothing.
use Rattle.load_text.proofs.Lines.{going_next, going_done, going_full}
use native.Mathlib.Omega.{arith}
use borrow.Author.Rules.{rules}
use Rattle.load_text.proofs.inner.write_lines.Goals as goal

pub returns-then-left-eq0 : goal.returns-then-left-eq0
returns-then-left-eq0 c = let l = c.loop-p in let a = c.args in
    going_done a.load a.out.now l.out l.ops l.operands l.state l.left l.p l.invariant.2 c.lines_part.result c.lines_part.ensures c.if-left-eq0.true

pub loop-p-preserved : goal.loop-p-preserved
loop-p-preserved c = let l = c.loop-p in let a = c.args in (
  l.invariant.0,
  search rules,
  going_next a.load a.out.now l.out l.ops l.operands l.state l.left l.p l.invariant.2 _ _ _ _ c.write_line-x.result.next (omega (arith, l.invariant.0)) (omega (arith, c.if-left-eq0.false)) c.write_line-x.ensures.wrote c.write_line-x.ensures.next_bound.0 c.write_line-x.ensures.next_bound.1 (search rules),
)

pub returns : goal.returns
returns c = let l = c.loop-p in let a = c.args in
    going_full a.load a.out.now l.out l.ops l.operands l.state l.left l.p l.invariant.2 c.lines_part-2.result c.lines_part-2.ensures (omega (arith, l.invariant.0))
