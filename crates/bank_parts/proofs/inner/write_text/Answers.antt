-- `bank_parts::inner::write_text` meets its contract: each part is lent, written, and back in its place. Assumes nothing.
use mathlib.Core.Path.{ap, ◌∙◌}
use mathlib.Core.List.{List}
use Prim.Native.Nat.{ℕ}
use native.Mathlib.Omega.{arith}
use Rattle.arrays.specs.Parts.{put_part}
use Rattle.arrays.proofs.Parts.{put_is, put_one}
use Rattle.bank_parts.proofs.Storing.{texts-are}
use Rattle.bank_parts.proofs.inner.write_text.Goals as goal

pub returns-clause-texts : goal.returns-clause-texts
returns-clause-texts c =
    let s = c.args.bank.now in
    let k = c.args.slot.0 in
    texts-are (put_one s.lengths.now k c.args.text.len (omega (arith, c.requires.1.lengths)))
    (put_is 6 s.ops.now k _ ∙ ap (λ (z : List ℕ). put_part 6 s.ops.now k z) c.copy_from_slice.ensures.after)
    (put_is 6 s.operands.now k _ ∙ ap (λ (z : List ℕ). put_part 6 s.operands.now k z) c.copy_from_slice-2.ensures.after)
    (put_is 3 s.costs.now k _ ∙ ap (λ (z : List ℕ). put_part 3 s.costs.now k z) c.write_cost.ensures)
