-- `search_residual_map::inner::is_wanted` meets its contract: gate and atom are those of the number. Assumes nothing.
use Rattle.std.proofs.Common.{ℕ, ◌∙◌, ap₂}
use Rattle.arrays.specs.Parts.{part_at}
use Rattle.row_gates.specs.Gates.{same_row}
use Rattle.row_gates.specs.declared.Gate.{Gate}
use Rattle.search_residual_trial.specs.Trying.{completing}
use Rattle.search_residual_trial.specs.Steps.{wanted, same}
use Rattle.search_residual_map.proofs.inner.is_wanted.Goals as goal

pub returns : goal.returns
unfolding same wanted
returns c =
    let a = c.args in
    c.completes.ensures
    ∙ ap₂ (λ (g : Gate) (k : ℕ). same_row (part_at 16 a.rows.now a.slot) (completing g a.search.now.w a.search.now.target a.search.now.atoms.now k)) c.outer_at-g.ensures c.atom_at-a.ensures.0
