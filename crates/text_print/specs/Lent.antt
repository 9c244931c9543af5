-- The arrays of a bank and of an index as they are lent for printing. Assumes nothing.
use Rattle.std.specs.Prelude.{List, ℕ, ◌++◌}
use Rattle.text_print.specs.declared.inner.Atoms.{Atoms}
use Rattle.text_print.specs.declared.inner.Pairs.{Pairs}
use Rattle.text_print.specs.Printing.{lines_text, numbers_at, formula_at, Stored, Shown, Printed}

-- formulas of at most six tokens each, in arrays that are long enough
abbrev pub AreStored : Atoms → Type 0
AreStored a = Stored a.lengths.now a.ops.now a.operands.now a.n

-- atoms and pairs in arrays that are long enough
abbrev pub AreShown : Atoms → Pairs → Type 0
AreShown a p = Shown a.lengths.now a.ops.now a.operands.now a.costs.now a.n p.numbers.now p.m

-- the lines of their costs, and after them those of their formulas
abbrev pub atoms_text : Atoms → List ℕ
atoms_text a = lines_text (numbers_at a.costs.now) a.n ++ lines_text (formula_at a.lengths.now a.ops.now a.operands.now) a.n

-- what printing writes: whatever bank and index the arrays hold
abbrev pub ArePrinted : Atoms → Pairs → (out out' : List ℕ) → ℕ → Type 0
ArePrinted a p = Printed a.lengths.now a.ops.now a.operands.now a.costs.now a.n p.numbers.now p.m p.cut
