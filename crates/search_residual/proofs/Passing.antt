-- What is known where no refusal of a residual search applies, and what its answer then says. Assumes nothing.
use mathlib.Core.Path.{◌≡◌}
use mathlib.Core.Bool.{◌||◌}
use mathlib.Core.List.{List}
use Prim.Native.Nat.{ℕ, ◌/◌, ◌^◌}
use native.Mathlib.Omega.{arith}
use borrow.Author.Tests.{ltb-false}
use lib.Dec.{ltb}
use lib.ListN.{length}
use Rattle.limits.specs.Refusal.{bad_width}
use Rattle.limits.proofs.Refusals.{within, passed, neither, enough}
use Rattle.row_lent.specs.Range.{reaches}
use Rattle.row_lent.proofs.Reaching.{not_reached}
use Rattle.search_residual.specs.Answer.{residual_refusal}
use Rattle.search_residual.specs.Told.{Lent}

module _ (w count : ℕ) (atoms : List ℕ) (n : ℕ) (listed target : List ℕ) where
  pub none-refused : residual_refusal w count atoms n listed target ≡ 0 → length target ≡ 16 → Lent w count atoms n listed target
  none-refused e long =
      let wide = passed (bad_width w) 2 _ (omega arith) e in
      let short = passed (ltb (length atoms / 16) count || ltb (length listed / 16) n) 4 _ (omega arith) wide.1 in
      let low = passed (reaches (2 ^ w) target) 5 _ (omega arith) short.1 in
      let few = passed (ltb 479 count || ltb 262144 n) 7 _ (omega arith) low.1 in
      let rows = neither (ltb (length atoms / 16) count) (ltb (length listed / 16) n) short.0 in
      let counts = neither (ltb 479 count) (ltb 262144 n) few.0 in
      record {
        width = (within 1 64 w wide.0).most;
        few = ltb-false _ _ counts.0;
        atoms-fit = enough 16 (length atoms) count (omega arith) rows.0;
        most = ltb-false _ _ counts.1;
        rows_fit = enough 16 (length listed) n (omega arith) rows.1;
        long = long;
        reduced = λ j h. not_reached (2 ^ w) target low.0 j (omega (arith, long));
      }
