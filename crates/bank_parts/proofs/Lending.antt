-- Laws of the arrays lent together: they stay the same five from call to call. Assumes nothing.
use mathlib.Core.Path.{refl, ◌∙◌}
use Rattle.bank_parts.specs.declared.LentBank.{LentBank}
use Rattle.bank_parts.specs.Lent.{SameSlices}

-- before the first call
pub same-start : (b : LentBank) → SameSlices b b
same-start b = record { lengths = refl; ops = refl; operands = refl; costs = refl; rows = refl }

-- after one call more
pub same-on : {a b c : LentBank} → SameSlices a b → SameSlices b c → SameSlices a c
same-on s t = record {
  lengths = t.lengths ∙ s.lengths;
  ops = t.ops ∙ s.ops;
  operands = t.operands ∙ s.operands;
  costs = t.costs ∙ s.costs;
  rows = t.rows ∙ s.rows;
}
