-- Laws of two phases of a build, one after the other: what the second leaves over the first's arrays it leaves over the arrays before both. Assumes nothing.
use mathlib.Core.Path.{◌≡◌, sym, ap, ◌∙◌}
use mathlib.Core.List.{List, ◌++◌}
use Prim.Native.Nat.{ℕ, ◌+◌, ◌-◌, ◌*◌, ◌≤◌}
use native.Mathlib.Nat.{mul-le-mul_left}
use native.Mathlib.Omega.{arith}
use lib.ListN.{length, drop}
use lib.Seq.{drop-drop, drop-append-add}
use Rattle.arrays.specs.Parts.{encode, spread}
use Rattle.arrays.proofs.Parts.{length-encode}
use Rattle.bank_spec.specs.Push.{Atom}
use Rattle.bank_spec.specs.Encoding.{Arrays, written, length_part, ops_part, operands_part, cost_part, row_part}
use Rattle.bank_spec.proofs.Encodings.{length-wide, ops-wide, operands-wide, cost-wide, row-wide}
use Rattle.bank_push.specs.Steps.{IsBank}
use Rattle.bank_unary.specs.Phases.{Holding, Phase}

-- ---- one bank written over another
-- a longer bank covers all of the shorter
spread_over : (s : ℕ) (part : Atom → List ℕ) → ((a : Atom) → length (part a) ≡ s) → (bank later : List Atom) (old : List ℕ) → length bank ≤ length later
    → spread s part later (spread s part bank old) ≡ spread s part later old
spread_over s part wide bank later old h =
    let m : s * length bank ≤ s * length later = mul-le-mul_left {m = length bank} {n = length later} s h in
    let d : ℕ = s * length later - s * length bank in
    let long : length (encode part bank) ≡ s * length bank = length-encode s part wide bank in
    let e : length (encode part bank) + d ≡ s * length later = omega (arith, long, m) in
    let f : s * length bank + d ≡ s * length later = omega (arith, m) in
    ap (λ (z : List ℕ). encode part later ++ z)
    (ap (λ (n : ℕ). drop n (encode part bank ++ drop (s * length bank) old)) (sym e)
    ∙ drop-append-add (encode part bank) (drop (s * length bank) old) d
    ∙ drop-drop d (s * length bank) old
    ∙ ap (λ (n : ℕ). drop n old) f)

-- so in all five arrays
written_over : (bank later : List Atom) (old : Arrays) → length bank ≤ length later → written later (written bank old) ≡ written later old
written_over bank later old h = λ i. record {
  lengths = spread_over 1 length_part length-wide bank later old.lengths h i;
  ops = spread_over 6 ops_part ops-wide bank later old.ops h i;
  operands = spread_over 6 operands_part operands-wide bank later old.operands h i;
  costs = spread_over 3 cost_part cost-wide bank later old.costs h i;
  rows = spread_over 16 row_part row-wide bank later old.rows h i;
}

-- what holds a bank over older contents holds it over its own
pub bank-again : (old a : Arrays) (n : ℕ) (bank : List Atom) → IsBank old a n bank → IsBank a a n bank
bank-again old a n bank b = record {
  count = b.count;
  arrays = b.arrays ∙ sym (written_over bank bank old (omega arith)) ∙ ap (written bank) (sym b.arrays);
  wide = b.wide;
  distinct = b.distinct;
}

-- a phase after a phase
pub bank_over : (old a a' : Arrays) (n r : ℕ) (bank later : List Atom) → length bank ≤ length later → IsBank old a n bank → IsBank a a' r later → IsBank old a' r later
bank_over old a a' n r bank later h b c = record {
  count = c.count;
  arrays = c.arrays ∙ ap (written later) b.arrays ∙ written_over bank later old h;
  wide = c.wide;
  distinct = c.distinct;
}

-- what a phase leaves is what the next asks for
pub holding : (old a : Arrays) (work : List ℕ) (n : ℕ) (bank : List Atom) → Phase old a work n bank → Holding a work n bank
holding old a work n bank p = record { ready = p.ready; bank = bank-again old a n bank p.bank }

-- two phases one after the other, where the second bank is not shorter
pub phase_on : (old a a' : Arrays) (work work' : List ℕ) (n r : ℕ) (bank later : List Atom) → length bank ≤ length later
    → Phase old a work n bank → Phase a a' work' r later → Phase old a' work' r later
phase_on old a a' work work' n r bank later h p q = record { ready = q.ready; bank = bank_over old a a' n r bank later h p.bank q.bank }
