-- The formulas of a lent bank and index as they are handed over, in one struct. Assumes nothing.
use Rattle.std.specs.Prelude.{List, ℕ}
use Rattle.search_product_forms.specs.Forms.{Forms}
use Rattle.search_product_forms.specs.Written.{forms}
use Rattle.search_product_forms.specs.declared.inner.LentForms.{LentForms}

-- what stands in its arrays
abbrev pub forms_of : LentForms → Forms
forms_of f = forms f.lengths.now f.ops.now f.operands.now f.pairs.now

-- .. and its atoms with other pairs
abbrev pub forms_with : LentForms → List ℕ → Forms
forms_with f pairs = forms f.lengths.now f.ops.now f.operands.now pairs
