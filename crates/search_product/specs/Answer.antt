-- What a product search answers, from its inputs alone. Assumes nothing.
use Rattle.std.specs.Prelude.{Bool, ◌||◌, List, ℕ, ◌^◌}
use Rattle.std.proofs.Math.Option.{Option}
use Rattle.limits.specs.Refusal.{refuse, bad_width, Outcome, outcome}
use Rattle.search_filter.specs.Refusals.{short_pairs, wrong_order}
use Rattle.limits.specs.Limits.{too_few_rows, too_many_atoms, too_many_pairs}
use Rattle.row_lent.specs.Range.{reaches}
use Rattle.search_product_forms.specs.Forms.{Forms}
use Rattle.search_product_forms.specs.Refusals.{short_forms, bad_atoms, bad_pairs}
use Rattle.search_product_trial.specs.Trying.{Product, try_everything}

-- 01, Turned back, 4: a lent array shorter than its count needs
abbrev pub short_arrays : ℕ → List ℕ → ℕ → List ℕ → List ℕ → Forms → Bool
short_arrays count atoms n listed order f = too_few_rows count atoms || (short_pairs n listed order || short_forms count n f)

-- 01, Turned back, 7, and 02, 2.4: too many claimed, or a pair that names no gate or no atom
abbrev pub too_many_or_bad : ℕ → ℕ → Forms → Bool
too_many_or_bad count n f = too_many_atoms count || (too_many_pairs n || bad_pairs count n f)

-- 01, Turned back, and 02, 2.4, for a product search: 2, 4, 5, 6, 7, 8
abbrev pub search_refusal : ℕ → ℕ → List ℕ → ℕ → List ℕ → List ℕ → List ℕ → Forms → ℕ
search_refusal w count atoms n listed order target f =
    refuse (bad_width w) 2
    (refuse (short_arrays count atoms n listed order f) 4
    (refuse (reaches (2 ^ w) target) 5
    (refuse (bad_atoms count f) 6
    (refuse (too_many_or_bad count n f) 7
    (refuse (wrong_order n listed order) 8 0)))))

-- demand 3: on whatever bank and index are lent its answer is the very one that trying everything gives, which keeps the least
abbrev pub product : ℕ → ℕ → List ℕ → ℕ → List ℕ → List ℕ → List ℕ → Forms → Outcome (Option Product)
product w count atoms n listed order target f =
    outcome (search_refusal w count atoms n listed order target f) (try_everything w count atoms n listed target f)
