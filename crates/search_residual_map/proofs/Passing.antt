-- Laws of a pass over rows: what is known of the first n, and one row more. Assumes nothing.
use Rattle.std.proofs.Common.{◌≡◌, ℕ, ◌+◌, ◌*◌, ◌<◌, ◌≤◌, false, List, arith, below_more}
use Rattle.search_residual_trial.specs.Steps.{same}
use Rattle.search_residual_map.specs.Map.{Read, Best}

module _ (w count : ℕ) (atoms target rows : List ℕ) (beaten : ℕ) where
  pub best_start : beaten ≤ 2 * count → Best w count atoms target rows 0 beaten beaten 0
  best_start most = record {
    least = omega arith;
    most = most;
    none = λ t le lt s ls. absurd (omega arith);
    hit = λ t e le. absurd (omega arith);
  }

  module _ (n at found entry : ℕ) (best : Best w count atoms target rows n beaten at found) (read : Read w count atoms target rows n at entry) where
    -- no slot up to this row has a residual row from the entry on
    none_more : (t : ℕ) → entry ≤ t → t < 2 * count → (s : ℕ) → s < n + 1 → same w count atoms target rows t s ≡ false
    none_more t le lt =
        below_more (λ (s : ℕ). same w count atoms target rows t s ≡ false) n (best.none t (omega (arith, read.least)) lt) (read.none t le lt)

    -- the row is an earlier trial's
    pub best_better : at < entry → Best w count atoms target rows (n + 1) beaten entry n
    best_better h = record {
      least = omega (arith, best.least);
      most = read.most;
      none = none_more;
      hit = λ t e le. record { below = omega arith; is = read.hit t e (omega arith); least = best.none t (omega arith) (omega (arith, read.most)) };
    }

    -- it is none
    pub best_kept : entry ≤ at → Best w count atoms target rows (n + 1) beaten at found
    best_kept h = record {
      least = best.least;
      most = best.most;
      none = λ t le lt. none_more t (omega arith) lt;
      hit = λ t e le. let b = best.hit t e le in record { below = omega (arith, b.below); is = b.is; least = b.least };
    }

  -- the first of all trials can't be beaten
  pub best_first : (k n at found : ℕ) → k ≤ n → at ≡ 2 * count → Best w count atoms target rows k beaten at found → Best w count atoms target rows n beaten at found
  best_first k n at found h e best = record {
    least = best.least;
    most = best.most;
    none = λ t le lt s ls. absurd (omega arith);
    hit = λ t et le. let b = best.hit t et le in record { below = omega (arith, b.below); is = b.is; least = b.least };
  }
