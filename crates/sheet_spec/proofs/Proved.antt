-- The sheet holds: by computation, and P8 by arithmetic. Assumes nothing.
use mathlib.Core.Path.{◌≡◌, refl, sym, ap, ◌∙◌}
use mathlib.Core.Bool.{true}
use Prim.Native.Nat.{ℕ, ◌-◌, ◌*◌, ◌%◌, ◌^◌, ◌<◌}
use native.Mathlib.Nat.{one-mul, mod-eq_of_lt}
use mathlib.Core.Logic.{◌↔◌}
use native.Mathlib.Omega.{arith}
use lib.Count.{count_trailing_zeros}
use borrow.Author.Tests.{eqb-true, eq-eqb}
use Rattle.arrays.specs.Lists.{count_up, keep}
use Rattle.row_gates.specs.Gates.{gate_of, gate_row}
use Rattle.expr_cost.specs.Cost.{info_of}
use Rattle.search_equation.specs.Equation.{zeros_of, used, solves}
use Rattle.search_equation.proofs.Used.{used-few}
use Rattle.bank_spec.specs.Bank.{seeds_of, bank_of}
use Rattle.index_spec.specs.Index.{all_gates, index_of}
use Rattle.row_lent.specs.Range.{reaches}
use Rattle.bank.specs.Build.{points_reach}
use Rattle.listing.specs.Listing.{listing}
use Rattle.sheet_spec.specs.Inputs.{again, points, bank2, bank9, input1, output1}
use Rattle.sheet_spec.specs.Sheet.{Sheet}

-- P8: 1 × f is f below 2^64
alone : (f : ℕ) → f < 2 ^ 64 → 1 * f % 2 ^ 64 ≡ f
alone f h = ap (λ (x : ℕ). x % 2 ^ 64) (one-mul f) ∙ mod-eq_of_lt h

-- so t alone solves 1 × f = t
only : (f t : ℕ) → f < 2 ^ 64 → t < 2 ^ 64 → (solves 64 1 t f ≡ true) ↔ (f ≡ t)
unfolding solves
only f t h k = (
  λ e. sym (alone f h) ∙ eqb-true (1 * f % 2 ^ 64) (t % 2 ^ 64) e ∙ mod-eq_of_lt k,
  λ e. eq-eqb (1 * f % 2 ^ 64) (t % 2 ^ 64) (alone f h ∙ e ∙ sym (mod-eq_of_lt k)),
)

-- 1 has no trailing zeros, so that the rule says "used" for every t
no_zeros : zeros_of 1 ≡ 0
unfolding count_trailing_zeros
no_zeros = refl

odd_used : (t : ℕ) → used 1 t ≡ true
odd_used t = used-few 1 t (λ e. absurd (omega arith)) (omega (arith, no_zeros))

pub sheet : Sheet
unfolding listing again points bank2 bank9 input1 output1 info_of gate_of gate_row used count_trailing_zeros solves seeds_of bank_of all_gates index_of reaches points_reach count_up keep
sheet = record {
  p1 = refl;
  p2_count = refl;
  p2_last = refl;
  p2_row = refl;
  p3_first = refl;
  p3_none = refl;
  p3_full = refl;
  p3_whole = refl;
  p3_cut = refl;
  p4_square = refl;
  p4_triple = refl;
  p5_four = (refl, refl);
  p5_three = (refl, refl);
  p6_zero = refl;
  p6_one = (refl, refl);
  p7_many = (refl, refl);
  p7_unused = refl;
  p7_none = (refl, refl);
  p8 = (odd_used (2 ^ 64 - 1), λ f h. only f (2 ^ 64 - 1) h (omega arith));
  p9_before = refl;
  p9_after = refl;
  p10_seeds = refl;
  p10_counts = (refl, refl);
  p10_forms = (refl, refl);
  last_256 = refl;
  last_255 = refl;
}
