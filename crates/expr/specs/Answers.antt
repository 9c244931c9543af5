-- The refusals of 01's table that are about formulas. Assumes nothing.
use Rattle.std.specs.Prelude.{Bool, not, ◌||◌, List, ℕ, ltb, length}
use Rattle.expr.specs.Formula.{tokens, is_formula}

-- 01, Turned back, 4: a lent array shorter than its count needs
abbrev pub too_short : ℕ → List ℕ → List ℕ → Bool
too_short count ops operands = ltb (length ops) count || ltb (length operands) count

-- 01, Turned back, 6: the first `count` tokens are no formula
abbrev pub not_formula : ℕ → ℕ → List ℕ → List ℕ → Bool
not_formula nv count ops operands = not (is_formula nv (tokens count ops operands))
