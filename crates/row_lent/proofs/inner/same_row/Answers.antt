-- `row_lent::inner::same_row` meets its contract: the places passed hold the words of the row. Assumes nothing.
use mathlib.Core.Path.{◌≡◌, sym, ap, ◌∙◌}
use mathlib.Core.List.{List}
use Prim.Native.Nat.{ℕ}
use native.Mathlib.Omega.{arith}
use borrow.Author.Rules.{rules}
use lib.ListN.{length, get_or}
use lib.Seq.{ext_get_or}
use Rattle.arrays.specs.Parts.{part_at}
use Rattle.arrays.proofs.Parts.{length-part, get_d_part}
use Rattle.row_gates.proofs.Rows.{same-row_of, same-row-not}
use Rattle.row_lent.proofs.inner.same_row.Goals as goal

pub returns-then-rows-base : goal.returns-then-rows-base
returns-then-rows-base c =
    let at = get_d_part 16 c.args.rows.now c.args.slot c.loop-word.word (omega arith) in
    sym (same-row-not (part_at 16 c.args.rows.now c.args.slot) c.args.row (λ e. c.if-rows-base.true (sym at ∙ ap (λ (l : List ℕ). get_or l c.loop-word.word 0) e)))

pub returns : goal.returns
returns c =
    let long = length-part 16 c.args.rows.now c.args.slot (omega arith) in
    let wide : length c.args.row ≡ 16 = search rules in
    sym (same-row_of (ext_get_or 0 (part_at 16 c.args.rows.now c.args.slot) c.args.row (omega arith)
    (λ k h. get_d_part 16 c.args.rows.now c.args.slot k (omega arith) ∙ c.loop-word.invariant k (omega arith))))
