-- Laws of the call `build_bank`: what its refusals leave to the build, and what it answers. Assumes nothing.
use mathlib.Core.Path.{◌≡◌, sym, ap, ◌∙◌}
use mathlib.Core.Bool.{false, ◌||◌}
use mathlib.Core.List.{List}
use Rattle.std.specs.Prelude.{Ok}
use Prim.Native.Nat.{ℕ, ◌*◌, ◌^◌, ◌≤◌}
use native.Mathlib.Omega.{arith}
use borrow.Author.Tests.{ltb-false}
use lib.Dec.{ltb}
use lib.ListN.{length}
use Rattle.limits.specs.Refusal.{refuse, bad_count, bad_width, answer}
use Rattle.limits.proofs.Refusals.{true_not_false, within, passed, neither}
use Rattle.limits.proofs.Answers.{says_ok, unless_ok}
use Rattle.probe_points.specs.declared.Point.{Point}
use Rattle.bank_spec.specs.Encoding.{Arrays, written}
use Rattle.bank_spec.specs.Bank.{bank_of}
use Rattle.bank_spec.proofs.Banks.{bank-few}
use Rattle.row_lent.specs.Range.{reaches}
use Rattle.bank.specs.Build.{sizes_of, too_small, points_reach, bank_refusal, BankBuilt}
use Rattle.bank_unary.specs.Phases.{Asked, Phase, Fits}

-- ---- where nothing is refused
module _ (nv w : ℕ) (points : List Point) (target : List ℕ) (a : Arrays) (work : List ℕ) (e : bank_refusal nv w points target (sizes_of a work) ≡ 0) where
  count_passed : (bad_count nv ≡ false) × (refuse (bad_width w) 2 (refuse (too_small (sizes_of a work)) 4 (refuse (points_reach (2 ^ w) nv points || reaches (2 ^ w) target) 5 0)) ≡ 0)
  count_passed = passed (bad_count nv) 1 _ (omega arith) e

  width_passed : (bad_width w ≡ false) × (refuse (too_small (sizes_of a work)) 4 (refuse (points_reach (2 ^ w) nv points || reaches (2 ^ w) target) 5 0) ≡ 0)
  width_passed = passed (bad_width w) 2 _ (omega arith) count_passed.1

  -- a count and a width within their ranges
  pub build-asked : Asked nv w
  build-asked = record {
    least = (within 1 6 nv count_passed.0).least;
    most = (within 1 6 nv count_passed.0).most;
    width = (within 1 64 w width_passed.0).most;
  }

  -- arrays long enough
  pub build-fits : Fits a work
  build-fits =
      let small : too_small (sizes_of a work) ≡ false = (passed (too_small (sizes_of a work)) 4 _ (omega arith) width_passed.1).0 in
      let s1 = neither (ltb (length a.lengths) 479) _ small in
      let s2 = neither (ltb (length a.ops) (6 * 479)) _ s1.1 in
      let s3 = neither (ltb (length a.operands) (6 * 479)) _ s2.1 in
      let s4 = neither (ltb (length a.costs) (3 * 479)) _ s3.1 in
      let s5 = neither (ltb (length a.rows) (16 * 479)) _ s4.1 in
      record {
        room = record {
          texts = record {
            lengths = ltb-false _ _ s1.0;
            ops = ltb-false _ _ s2.0;
            operands = ltb-false _ _ s3.0;
            costs = ltb-false _ _ s4.0;
          };
          rows = ltb-false _ _ s5.0;
        };
        area = ltb-false _ _ s5.1;
      }

-- ---- what is answered
module _ (nv w : ℕ) (points : List Point) (target : List ℕ) (a : Arrays) (work : List ℕ) where
  abbrev number : ℕ
  number = bank_refusal nv w points target (sizes_of a work)

  abbrev count : ℕ
  count = length (bank_of nv w points target)

  -- the count of a bank fits 32 bits
  pub built-few : (a' : Arrays) (work' : List ℕ) (r : ℕ) → Asked nv w → Phase a a' work' r (bank_of nv w points target) → r ≤ 479
  built-few a' work' r asked p = omega (arith, p.bank.count, bank-few nv w points target asked.most)

  -- nothing refused: the bank over what was there
  pub built-built : (a' : Arrays) (work' : List ℕ) (r : ℕ) → 0 ≡ number → Phase a a' work' r (bank_of nv w points target) → BankBuilt nv w points target a a' work work' (Ok r)
  built-built a' work' r e p = record {
    result = ap answer p.bank.count ∙ says_ok number count e;
    arrays = p.bank.arrays ∙ sym (unless_ok number (written (bank_of nv w points target) a) a e);
    work = λ h. absurd (true_not_false (sym h ∙ ap (λ (m : ℕ). ltb 0 m) (sym e)));
  }
