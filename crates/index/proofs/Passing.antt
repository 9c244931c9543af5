-- Laws of the refusals of a build: what is known where none applies. Assumes nothing.
use mathlib.Core.Path.{◌≡◌}
use Prim.Native.Nat.{ℕ, ◌+◌, ◌*◌, ◌/◌, ◌≤◌}
use native.Mathlib.Omega.{arith}
use borrow.Author.Tests.{ltb-false}
use lib.Dec.{ltb}
use Rattle.limits.specs.Limits.{atoms_max, pairs_max, too_many_atoms}
use Rattle.limits.specs.Refusal.{bad_width}
use Rattle.limits.proofs.Refusals.{within, passed, neither, enough}
use Rattle.index.specs.Build.{too_short, build_refusal}

-- what is known where nothing is refused
pub record Passed (w count L rows pairs pairRows order work : ℕ) : Type 0 where
  pub width : w ≤ 64
  pub few : count ≤ atoms_max
  pub atoms : 16 * count ≤ rows
  pub most : L ≤ pairs_max
  pub pairs-fit : 3 * L ≤ pairs
  pub rows_fit : 16 * L ≤ pairRows
  pub order-fit : L ≤ order
  pub area : 4 * (L + atoms_max) ≤ work

pub none-refused : (w count L rows pairs pairRows order work : ℕ) → build_refusal w count L rows pairs pairRows order work ≡ 0 → Passed w count L rows pairs pairRows order work
none-refused w count L rows pairs pairRows order work none =
    let wide = passed (bad_width w) 2 _ (omega arith) none in
    let most = passed (ltb pairs_max L) 3 _ (omega arith) wide.1 in
    let short = passed (too_short count L rows pairs pairRows order work) 4 _ (omega arith) most.1 in
    let few = passed (too_many_atoms count) 7 0 (omega arith) short.1 in
    let one = neither (ltb (rows / 16) count) _ short.0 in
    let two = neither (ltb (pairs / 3) L) _ one.1 in
    let three = neither (ltb (pairRows / 16) L) _ two.1 in
    let four = neither (ltb order L) _ three.1 in
    record {
      width = (within 1 64 w wide.0).most;
      few = ltb-false _ _ few.0;
      atoms = enough 16 rows count (omega arith) one.0;
      most = ltb-false _ _ most.0;
      pairs-fit = enough 3 pairs L (omega arith) two.0;
      rows_fit = enough 16 pairRows L (omega arith) three.0;
      order-fit = ltb-false _ _ four.0;
      area = enough 4 work (L + atoms_max) (omega arith) four.1;
    }
