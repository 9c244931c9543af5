-- `bank_lookup::atom_row` meets its contract: what passed the tests is the slot's sixteen words. Assumes nothing.
use mathlib.Core.Path.{refl, sym, ap, ◌∙◌}
use mathlib.Core.List.{[]}
use Prim.Native.Nat.{ℕ}
use borrow.Author.Tests.{le-ltb, lt-leb}
use Rattle.limits.specs.Refusal.{unless_refused}
use Rattle.limits.proofs.Refusals.{refused-later, or_later}
use Rattle.arrays.specs.Parts.{part_at}
use Rattle.arrays.proofs.Parts.{part_is}
use Rattle.bank_lookup.proofs.atom_row.Goals as goal

pub returns : goal.returns
returns c =
    let a = c.args in
    part_is 16 a.atom_rows.now a.slot.0
    ∙ ap (λ (n : ℕ). unless_refused n (part_at 16 a.atom_rows.now a.slot.0) [])
    (sym (refused-later 4 (le-ltb _ _ c.if-atom_rows-atom_count.false) (refused-later 7 (or_later (le-ltb _ _ c.if-atom_count-gt-ATOMS_MAX.false) (lt-leb _ _ c.if-atom_count-s.false)) refl)))
