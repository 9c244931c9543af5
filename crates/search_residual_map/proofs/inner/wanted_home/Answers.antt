-- `search_residual_map::inner::wanted_home` meets its contract: gate and atom are those of the number. Assumes nothing.
use Rattle.std.proofs.Common.{◌≡◌, ℕ, List, length, ap, ◌∙◌, ap₂, rules}
use Rattle.arrays.proofs.Parts.{part_whole}
use Rattle.row_gates.specs.Gates.{residual_row}
use Rattle.row_gates.specs.declared.Gate.{Gate}
use Rattle.search_residual_trial.specs.Trying.{completing}
use Rattle.search_residual_trial.specs.Steps.{wanted}
use Rattle.search_residual_map.specs.Map.{home_of}
use Rattle.search_residual_map.proofs.inner.wanted_home.Goals as goal

pub returns : goal.returns
unfolding wanted
returns c =
    let a = c.args in
    let row = c.residual_row-row.result in
    let wide : length row ≡ 16 = search rules in
    let is : row ≡ wanted a.w a.count a.atoms.now a.target a.t =
    c.residual_row-row.ensures
    ∙ ap (λ (x : List ℕ). residual_row c.outer_at.result a.w a.target x) c.load_row-atom.ensures
    ∙ ap₂ (λ (g : Gate) (k : ℕ). completing g a.w a.target a.atoms.now k) c.outer_at.ensures c.atom_at.ensures.0 in
    (c.home_of.ensures.0 ∙ ap home_of (part_whole 16 row wide ∙ is), c.home_of.ensures.1)
