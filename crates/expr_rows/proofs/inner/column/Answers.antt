-- `expr_rows::inner::column` meets its contract: the places passed hold the reduced words. Assumes nothing.
use mathlib.Core.Path.{ap, ◌∙◌}
use Prim.Native.Nat.{ℕ, ◌+◌, ◌*◌, ◌%◌}
use native.Mathlib.Omega.{arith}
use borrow.Author.Rules.{rules}
use lib.ListN.{get_or, length-set}
use Rattle.arith.proofs.Remainders.{modulus-is}
use Rattle.arrays.proofs.Fill.{filled_more}
use Rattle.arrays.proofs.Parts.{part_within}
use Rattle.expr_rows.proofs.inner.column.Goals as goal

pub overflow_mul-nv : goal.overflow_mul-nv
overflow_mul-nv c =
    let l = c.loop-j in
    omega (arith, part_within c.args.nv l.j 16 (search rules), c.requires.1.1.0)

pub overflow_add-nv : goal.overflow_add-nv
overflow_add-nv c =
    let l = c.loop-j in
    omega (arith, part_within c.args.nv l.j 16 (search rules), c.requires.1.1.0)

pub offset_bounds-records-nv : goal.offset_bounds-records-nv
offset_bounds-records-nv c =
    let l = c.loop-j in
    omega (arith, part_within c.args.nv l.j 16 (search rules), c.requires.1.1.0)

pub bounds-records-nv : goal.bounds-records-nv
bounds-records-nv c =
    omega (arith, part_within c.args.nv c.loop-j.j 16 (search rules), c.requires.1.1.1)

pub loop-j-preserved : goal.loop-j-preserved
loop-j-preserved c =
    let l = c.loop-j in
    (simp length-set (omega arith), filled_more _ l.row l.j c.reduce.result (omega arith) l.invariant.1 (c.reduce.ensures ∙ ap (λ (m : ℕ). get_or c.args.records.now (c.args.nv * l.j + c.args.i) 0 % m) (modulus-is c.args.w c.requires.0)))

pub returns : goal.returns
returns c = λ j h. c.loop-j.invariant.1 j (omega arith)
