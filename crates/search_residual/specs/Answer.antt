-- What a residual search answers, from its inputs alone. Assumes nothing.
use Rattle.std.specs.Prelude.{◌||◌, List, ℕ, ◌^◌}
use Rattle.std.proofs.Math.Option.{Option}
use Rattle.limits.specs.Refusal.{refuse, bad_width, Outcome, outcome}
use Rattle.limits.specs.Limits.{too_few_rows, too_many_atoms, too_many_pairs}
use Rattle.row_lent.specs.Range.{reaches}
use Rattle.search_residual_trial.specs.Trying.{Completion, try_residuals}

-- 02, 2.1: it turns back as the product search does, but reads no order list: 2, 4, 5, 7
abbrev pub residual_refusal : ℕ → ℕ → List ℕ → ℕ → List ℕ → List ℕ → ℕ
residual_refusal w count atoms n listed target =
    refuse (bad_width w) 2
    (refuse (too_few_rows count atoms || too_few_rows n listed) 4
    (refuse (reaches (2 ^ w) target) 5
    (refuse (too_many_atoms count || too_many_pairs n) 7 0)))

-- 01, calls over a lent bank or index work on its contents as they are: the answer is that of trying everything in 02's order
abbrev pub completion : ℕ → ℕ → List ℕ → ℕ → List ℕ → List ℕ → Outcome (Option Completion)
completion w count atoms n listed target = outcome (residual_refusal w count atoms n listed target) (try_residuals w count atoms n listed target)
