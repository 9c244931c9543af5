-- Laws of what is refused of the numbers of a text. Assumes nothing.
use mathlib.Core.Path.{◌≡◌, refl, ap₂}
use mathlib.Core.Bool.{true, false, ◌||◌}
use mathlib.Core.List.{List}
use Prim.Native.Nat.{ℕ, ◌*◌, ◌^◌}
use native.Mathlib.Omega.{arith}
use borrow.Author.Tests.{ltb-false}
use lib.Dec.{ltb}
use Rattle.limits.specs.Refusal.{refuse, bad_count, bad_width}
use Rattle.limits.proofs.Refusals.{refused_here, refused-later, inside, within, passed}
use Rattle.probe_points.specs.declared.Point.{Point}
use Rattle.bank.specs.declared.Sizes.{Sizes}
use Rattle.row_lent.specs.Range.{reaches}
use Rattle.bank.specs.Build.{points_reach, bank_refusal}
use Rattle.listing.specs.Listing.{count_of, width_of, limit_of, points_of, target_of, numbers_refusal}
use Rattle.listing.specs.Steps.{InRange, reach_refusal}

-- the arrays of a bank are long enough
abbrev full : Sizes
full = record { lengths = 479; ops = 6 * 479; operands = 6 * 479; costs = 3 * 479; rows = 16 * 479; work = 4 * 479 }

-- the bank build's refusal in range is that of a word that reaches 2^w
pub reach-is : (ns : List ℕ) (points : List Point) (target : List ℕ) → InRange ns → points ≡ points_of ns → target ≡ target_of ns
    → bank_refusal (count_of ns) (width_of ns) points target full ≡ reach_refusal ns
reach-is ns points target h p t =
    refused-later 1 (inside 1 6 (count_of ns) h.some h.few)
    (refused-later 2 (inside 1 64 (width_of ns) h.wide h.narrow)
    (refused-later 4 refl
    (ap₂ (λ (ps : List Point) (row : List ℕ). refuse (points_reach (2 ^ width_of ns) (count_of ns) ps || reaches (2 ^ width_of ns) row) 5 0) p t)))

-- ---- the table's order
module _ (ns : List ℕ) where
  pub number_1 : bad_count (count_of ns) ≡ true → numbers_refusal ns ≡ 1
  unfolding numbers_refusal
  number_1 e = refused_here 1 _ e

  pub number_2 : bad_count (count_of ns) ≡ false → bad_width (width_of ns) ≡ true → numbers_refusal ns ≡ 2
  unfolding numbers_refusal
  number_2 e f = refused-later 1 e (refused_here 2 _ f)

  pub number_3 : bad_count (count_of ns) ≡ false → bad_width (width_of ns) ≡ false → ltb 500 (limit_of ns) ≡ true → numbers_refusal ns ≡ 3
  unfolding numbers_refusal
  number_3 e f g = refused-later 1 e (refused-later 2 f (refused_here 3 _ g))

  -- nothing before 5
  pub number-last : bad_count (count_of ns) ≡ false → bad_width (width_of ns) ≡ false → ltb 500 (limit_of ns) ≡ false → numbers_refusal ns ≡ reach_refusal ns
  unfolding numbers_refusal
  number-last e f g = refused-later 1 e (refused-later 2 f (refused-later 3 g refl))

  pub in_range : bad_count (count_of ns) ≡ false → bad_width (width_of ns) ≡ false → ltb 500 (limit_of ns) ≡ false → InRange ns
  in_range e f g = record {
    some = (within 1 6 (count_of ns) e).least;
    few = (within 1 6 (count_of ns) e).most;
    wide = (within 1 64 (width_of ns) f).least;
    narrow = (within 1 64 (width_of ns) f).most;
    most = ltb-false 500 (limit_of ns) g;
  }

  -- where nothing is refused
  pub none-refused : numbers_refusal ns ≡ 0 → InRange ns
  unfolding numbers_refusal
  none-refused e =
      let first = passed (bad_count (count_of ns)) 1 _ (omega arith) e in
      let second = passed (bad_width (width_of ns)) 2 _ (omega arith) first.1 in
      let third = passed (ltb 500 (limit_of ns)) 3 _ (omega arith) second.1 in
      in_range first.0 second.0 third.0
