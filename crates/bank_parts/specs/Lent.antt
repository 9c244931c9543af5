-- The bank's five arrays as they are lent together. Assumes nothing.
use Rattle.std.specs.Prelude.{◌≡◌}
use Rattle.bank_spec.specs.Encoding.{Arrays}
use Rattle.bank_parts.specs.declared.LentBank.{LentBank}
use Rattle.bank_parts.specs.Parts.{arrays}

-- what they hold
abbrev pub arrays_of : LentBank → Arrays
arrays_of b = arrays b.lengths.now b.ops.now b.operands.now b.costs.now b.rows.now

-- the same five arrays are lent, whatever they hold
pub record SameSlices (old new : LentBank) : Type 0 where
  pub lengths : new.lengths.ghost_name ≡ old.lengths.ghost_name
  pub ops : new.ops.ghost_name ≡ old.ops.ghost_name
  pub operands : new.operands.ghost_name ≡ old.operands.ghost_name
  pub costs : new.costs.ghost_name ≡ old.costs.ghost_name
  pub rows : new.rows.ghost_name ≡ old.rows.ghost_name
