-- Finding a row in lent bank rows, and handing one back. Assumes nothing.
use Rattle.std.specs.Prelude.{true, false, ◌||◌, List, [], ℕ, zero, suc, ◌^◌, leb}
use Rattle.std.proofs.Math.Option.{Option, none, some}
use Rattle.limits.specs.Refusal.{refuse, unless_refused, bad_width, Outcome, outcome}
use Rattle.arrays.specs.Parts.{part_at}
use Rattle.row_gates.specs.Gates.{same_row}
use Rattle.row_lent.specs.Range.{reaches}
use Rattle.limits.specs.Limits.{too_few_rows, too_many_atoms}
use Rattle.row_lent.specs.declared.AtomSlot.{AtomSlot}
use Rattle.std.specs.Prelude as Std

-- 01, Also added: the least slot from k on, of n, whose row is the row; or none
unfoldable pub least_from : List ℕ → List ℕ → ℕ → ℕ → Option ℕ
unfolding part_at same_row
least_from rows row k zero = none
least_from rows row k (suc n) = elim (same_row (part_at 16 rows k) row) [ true ↦ some k | false ↦ least_from rows row (suc k) n ]

-- 01, Turned back: finding a row 2, 4, 5, 7
abbrev pub find_refusal : ℕ → ℕ → List ℕ → List ℕ → ℕ
find_refusal w count rows row =
    refuse (bad_width w) 2
    (refuse (too_few_rows count rows) 4
    (refuse (reaches (2 ^ w) row) 5
    (refuse (too_many_atoms count) 7 0)))

-- 01, Also added: finding a row in lent bank rows, least slot or none, where nothing is refused
abbrev pub found : ℕ → ℕ → List ℕ → List ℕ → Outcome (Option ℕ)
found w count rows row = outcome (find_refusal w count rows row) (least_from rows row 0 count)

-- the number of the slot that `find_row` answers, or none
abbrev pub slot_number : Std.Option AtomSlot → Option ℕ
slot_number (Std.Some slot) = some slot.0
slot_number Std.None = none

-- 01, Turned back: handing back a row 4, 7 (also an atom slot that is not below its count)
abbrev pub hand_refusal : ℕ → List ℕ → ℕ → ℕ
hand_refusal count rows slot =
    refuse (too_few_rows count rows) 4
    (refuse (too_many_atoms count || leb count slot) 7 0)

-- 01, Also added: the part of the row buffer that is one atom's row. 01, Turned back: an empty part when turned back
abbrev pub handed_back : ℕ → List ℕ → ℕ → List ℕ
handed_back count rows slot = unless_refused (hand_refusal count rows slot) (part_at 16 rows slot) []
