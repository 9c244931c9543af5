-- `search_equation::inner::is_solvable` meets its contract: both counts are the definition's. Assumes nothing.
use mathlib.Core.Path.{refl}
use Rattle.search_equation.specs.Equation.{solvable}
use Rattle.search_equation.proofs.inner.is_solvable.Goals as goal

pub returns : goal.returns
unfolding solvable
returns c = refl
