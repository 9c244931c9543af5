-- The rows of a built bank are its formulas': their words are values below 2^w, and the constant 0 is among them. Assumes nothing.
use mathlib.Core.Path.{◌≡◌, sym, ap, ◌∙◌}
use mathlib.Core.List.{List}
use Prim.Native.Nat.{ℕ, ◌%◌, ◌^◌, ◌<◌}
use native.Mathlib.Nat.{mod-eq_of_lt}
use native.Mathlib.Omega.{arith}
use lib.ListN.{length, get_or}
use lib.Pow.{pow_pos, pow_mono}
use Rattle.arrays.specs.Parts.{part_at}
use Rattle.limits.specs.Refusal.{bad_count}
use Rattle.limits.proofs.Refusals.{within, passed, unless_not}
use Rattle.bank_spec.specs.Push.{Atom, no_atom}
use Rattle.bank_spec.specs.Bank.{bank_of}
use Rattle.bank_spec.specs.Encoding.{Arrays, row_part, written}
use Rattle.bank_spec.specs.Facts.{SoundAtom}
use Rattle.bank_spec.proofs.AtomRows.{row_lt, row_zero}
use Rattle.bank_spec.proofs.Banks.{bank-is_sound, zero_held}
use Rattle.bank_spec.proofs.Encodings.{get_or_padded, row-wide, spread_part}
use Rattle.bank.specs.Build.{bank_refusal, sizes_of}
use Rattle.search_product.proofs.OwnPairs.{answered, zero_of}
use Rattle.search_product.specs.Demand.{BuiltBank}
use Rattle.search_residual_spec.specs.Sums.{BuiltRowsBelow, BuiltHasZero, NothingOnBuilt}
use Rattle.search_residual_spec.proofs.Nothing.{nothing_with_zero}

-- the bank's atoms, as they stand in its arrays
pub record Laid (count : ℕ) (atoms : List ℕ) (built : BuiltBank count atoms) (bank : List Atom) : Type 0 where
  pub number : length bank ≡ count
  pub sound : (a : ℕ) → a < count → SoundAtom built.nv built.w built.points (get_or bank a no_atom)
  pub word : (a j : ℕ) → a < count → j < 16 → get_or (part_at 16 atoms a) j 0 ≡ get_or (get_or bank a no_atom).row j 0

laid : (count : ℕ) (atoms : List ℕ) (built : BuiltBank count atoms) → Laid count atoms built (bank_of built.nv built.w built.points built.target)
unfolding row_part
laid count atoms built =
    let number = bank_refusal built.nv built.w built.points built.target (sizes_of built.old built.old_work) in
    let bank = bank_of built.nv built.w built.points built.target in
    let done = answered number (length bank) count (sym built.build.result ∙ built.says) in
    let none = zero_of number done.free in
    let counted = within 1 6 built.nv (passed (bad_count built.nv) 1 _ (omega arith) none).0 in
    let there : atoms ≡ (written bank built.old).rows = sym built.rows_are ∙ ap (λ (x : Arrays). x.rows) (built.build.arrays ∙ unless_not number _ _ none) in
    record {
      number = done.is;
      sound = λ a h. (bank-is_sound built.nv built.w built.points built.target counted.least counted.most).atom a (omega (arith, done.is));
      word = λ a j h l.
          ap (λ (x : List ℕ). get_or (part_at 16 x a) j 0) there
          ∙ ap (λ (x : List ℕ). get_or x j 0) (spread_part 16 row_part row-wide bank built.old.rows a (omega (arith, done.is)))
          ∙ get_or_padded 16 (get_or bank a no_atom).row j l;
    }

pub built-rows-below : BuiltRowsBelow
built-rows-below w count atoms built narrow a j h l =
    let bank = bank_of built.nv built.w built.points built.target in
    let on = laid count atoms built in
    let low = row_lt built.w built.points (get_or bank a no_atom).form j in
    let same = on.word a j h l ∙ ap (λ (x : List ℕ). get_or x j 0) (on.sound a h).row in
    omega (arith, low, same, pow_mono {i = built.w} {j = w} narrow)

pub built_has_zero : BuiltHasZero
built_has_zero w count atoms built =
    let on = laid count atoms built in
    let zero = zero_held built.nv built.w built.points built.target in
    let low : zero.slot < count = omega (arith, zero.below, on.number) in
    record {
      slot = zero.slot;
      below = low;
      zeros = λ j l.
          ap (λ (v : ℕ). v % 2 ^ w) (on.word zero.slot j low l ∙ ap (λ (x : List ℕ). get_or x j 0) zero.same ∙ row_zero built.w built.points j)
          ∙ mod-eq_of_lt (pow_pos w);
    }

pub nothing_on_built : NothingOnBuilt
nothing_on_built w count atoms L n listed order target found built =
    nothing_with_zero w count atoms L n listed order target found (built_has_zero w count atoms built)
