-- What is known where no refusal of a product search applies, and what its answer then says. Assumes nothing.
use mathlib.Core.Path.{◌≡◌}
use mathlib.Core.Bool.{◌||◌}
use mathlib.Core.List.{List}
use Prim.Native.Nat.{ℕ, ◌/◌, ◌^◌}
use native.Mathlib.Omega.{arith}
use borrow.Author.Tests.{ltb-false, not-false}
use lib.Dec.{ltb}
use lib.ListN.{length, take}
use Rattle.limits.specs.Refusal.{bad_width}
use Rattle.limits.proofs.Refusals.{within, passed, neither, enough}
use Rattle.index_order.specs.Order.{is_order}
use Rattle.search_filter.specs.Refusals.{short_pairs, wrong_order}
use Rattle.limits.specs.Limits.{too_many_pairs}
use Rattle.row_lent.specs.Range.{reaches}
use Rattle.row_lent.proofs.Reaching.{not_reached}
use Rattle.search_product_trial.specs.Stages.{Lent}
use Rattle.search_product_forms.specs.Forms.{Forms}
use Rattle.search_product_forms.specs.Refusals.{short_forms, bad_atoms, bad_pairs}
use Rattle.search_product_forms.specs.Written.{Written, Paired}
use Rattle.search_product_forms.proofs.Forming.{fits_of, written_of, paired_of}
use Rattle.search_product.specs.Answer.{short_arrays, too_many_or_bad, search_refusal}

module _ (w count : ℕ) (atoms : List ℕ) (n : ℕ) (listed order target : List ℕ) (f : Forms) where
  -- whatever the target's length is
  pub formulas_pass : search_refusal w count atoms n listed order target f ≡ 0 → (Written count f) × (Paired count n f)
  formulas_pass e =
      let short = passed (short_arrays count atoms n listed order f) 4 _ (omega arith) (passed (bad_width w) 2 _ (omega arith) e).1 in
      let good = passed (bad_atoms count f) 6 _ (omega arith) (passed (reaches (2 ^ w) target) 5 _ (omega arith) short.1).1 in
      let few = passed (too_many_or_bad count n f) 7 _ (omega arith) good.1 in
      let one = neither (ltb (length atoms / 16) count) (short_pairs n listed order || short_forms count n f) short.0 in
      let fits = fits_of count n f (neither (short_pairs n listed order) (short_forms count n f) one.1).1 in
      let counts = neither (ltb 479 count) (too_many_pairs n || bad_pairs count n f) few.0 in
      let pairs = neither (too_many_pairs n) (bad_pairs count n f) counts.1 in
      (written_of count n f fits.room (ltb-false _ _ counts.0) good.0, paired_of count n f fits.pairs pairs.1)

  pub none-refused : search_refusal w count atoms n listed order target f ≡ 0 → length target ≡ 16 → Lent w count atoms n listed order target f
  none-refused e long =
      let wide = passed (bad_width w) 2 _ (omega arith) e in
      let short = passed (short_arrays count atoms n listed order f) 4 _ (omega arith) wide.1 in
      let low = passed (reaches (2 ^ w) target) 5 _ (omega arith) short.1 in
      let good = passed (bad_atoms count f) 6 _ (omega arith) low.1 in
      let few = passed (too_many_or_bad count n f) 7 _ (omega arith) good.1 in
      let ordered = passed (wrong_order n listed order) 8 0 (omega arith) few.1 in
      let one = neither (ltb (length atoms / 16) count) (short_pairs n listed order || short_forms count n f) short.0 in
      let rest = neither (short_pairs n listed order) (short_forms count n f) one.1 in
      let two = neither (ltb (length listed / 16) n) (ltb (length order) n) rest.0 in
      let counts = neither (ltb 479 count) (too_many_pairs n || bad_pairs count n f) few.0 in
      let pairs = neither (too_many_pairs n) (bad_pairs count n f) counts.1 in
      let formulas = formulas_pass e in
      record {
        least = (within 1 64 w wide.0).least;
        width = (within 1 64 w wide.0).most;
        few = ltb-false _ _ counts.0;
        atoms-fit = enough 16 (length atoms) count (omega arith) one.0;
        ordered = record {
          most = ltb-false _ _ pairs.0;
          rows_fit = enough 16 (length listed) n (omega arith) two.0;
          order-fit = ltb-false _ _ two.1;
          is = not-false (is_order n listed (take n order)) ordered.0;
        };
        long = long;
        reduced = λ j h. not_reached (2 ^ w) target low.0 j (omega (arith, long));
        written = formulas.0;
        paired = formulas.1;
      }
