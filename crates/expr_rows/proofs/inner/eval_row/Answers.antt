-- `expr_rows::inner::eval_row` meets its contract: each lane goes as the evaluator's stack. Assumes nothing.
use mathlib.Core.Path.{◌≡◌, sym, ap, ◌∙◌, subst}
use mathlib.Core.List.{List}
use Prim.Native.Nat.{ℕ, ◌+◌, ◌-◌, ◌≤◌, ◌<◌}
use native.Mathlib.Omega.{arith}
use borrow.Author.Rules.{rules}
use lib.ListN.{get_or}
use Rattle.expr.specs.declared.Token.{Token}
use Rattle.expr.specs.Formula.{arity, token_at}
use Rattle.expr_rows.proofs.Lanes.{RowStage, rows_start, rows_low, rows-may, rows_there, rows_on, rows_end}
use Rattle.expr_rows.proofs.inner.eval_row.Goals as goal

-- ---- what the token at hand takes is there, and the stack is no longer than the place
module _ {w nv count : ℕ} {ops operands records arr : List ℕ} {sp i : ℕ} (s : RowStage w nv count ops operands records arr sp i) where
  there : {t : Token} → i < count → t ≡ token_at ops operands i → arity t ≤ sp
  there h e = rows_there w nv count ops operands records arr sp i s h _ (sym e)

  low : (sp ≤ i) × (count ≤ 64)
  low = rows_low w nv count ops operands records arr sp i s

pub loop-i-init : goal.loop-i-init
loop-i-init c =
    let a = c.args in
    rows_start a.w a.nv a.f.now.count a.f.now.ops.now a.f.now.operands.now a.records.now a.stack.now c.requires

pub token_row-row-requires : goal.token_row-row-requires
token_row-row-requires c =
    let taken = there c.loop-i.invariant (search rules) c.token_at-t.ensures in
    let n = low c.loop-i.invariant in
    let a = c.args in
    let l = c.loop-i in
    record {
      narrow = c.requires.narrow;
      few = c.requires.few;
      may = rows-may a.w a.nv a.f.now.count a.f.now.ops.now a.f.now.operands.now a.records.now l.stack l.sp l.i l.invariant c.requires.long (search rules) c.token_at-t.result (sym c.token_at-t.ensures);
      there = taken;
      high = omega (arith, n.0, n.1, l.invariant.room);
      long = c.requires.long;
    }

pub overflow_sub-base : goal.overflow_sub-base
overflow_sub-base c =
    let taken = there c.loop-i.invariant (search rules) c.token_at-t.ensures in
    omega (arith, taken, c.takes.ensures)

pub loop-i-preserved : goal.loop-i-preserved
loop-i-preserved c =
    let taken = there c.loop-i.invariant (search rules) c.token_at-t.ensures in
    let a = c.args in
    let l = c.loop-i in
    let r = c.token_row-row in
    let u = c.takes in
    subst (λ (k : List ℕ). RowStage a.w a.nv a.f.now.count a.f.now.ops.now a.f.now.operands.now a.records.now k (l.sp - u.result + 1) (l.i + 1)) (sym c.put_row.ensures)
    (rows_on a.w a.nv a.f.now.count a.f.now.ops.now a.f.now.operands.now a.records.now l.stack l.sp l.i l.invariant (search rules) c.token_at-t.result (sym c.token_at-t.ensures) (l.sp - u.result) r.result (omega (arith, taken, u.ensures)) (search rules) r.ensures)

pub returns : goal.returns
returns c =
    let a = c.args in
    let l = c.loop-i in
    λ j h. ap (λ (row : List ℕ). get_or row j 0) c.load_row.ensures
    ∙ rows_end a.w a.nv a.f.now.count a.f.now.ops.now a.f.now.operands.now a.records.now l.stack l.sp l.i l.invariant (search rules) j h
