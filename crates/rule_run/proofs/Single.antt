-- One record by itself: its value or the call's number, and what is answered. Assumes nothing.
use Rattle.std.proofs.Common.{◌≡◌, ℕ, ◌-◌, ◌*◌, ◌<◌, ◌≤◌, Bool, true, false, ◌||◌, ltb, List, [], ◌∷◌, length, take, drop, sym, refl, ap, ◌∙◌, ap₂, arith, le-ltb, lt-ltb}
use Rattle.arrays.specs.Parts.{part_at}
use Rattle.limits.specs.Refusal.{refuse, refused, answer, outcome, bad_count, bad_width}
use Rattle.limits.proofs.Refusals.{refused_here, refused-later, or_here, or_later, outcome-word, outcome-refused}
use Rattle.expr.specs.Answers.{too_short, not_formula}
use Rattle.rule_run.specs.Window.{bad_window, too_few, run_refusal}

-- the first nv words are the first record
pub first_record : (nv : ℕ) (words : List ℕ) → take (nv - 0) (drop 0 words) ≡ part_at nv words 0
unfolding part_at
first_record nv words = let e : nv - 0 ≡ nv = omega arith in let z : 0 ≡ nv * 0 = omega arith in ap₂ (λ (n k : ℕ). take n (drop k words)) e z

-- a number stays before the rest of a chain, and none leaves it
pub number_stays : (k n v rest : ℕ) → refused k ≡ outcome n v → refused k ≡ outcome (refuse (ltb 0 n) n rest) v
number_stays k n v rest e = e ∙ ap (λ (m : ℕ). outcome m v) (sym (refused_here n rest (lt-ltb 0 n (outcome-refused k n v e).0)))

pub number-none : (u n v rest : ℕ) → answer u ≡ outcome n v → refuse (ltb 0 n) n rest ≡ rest
number-none u n v rest e = let z = (outcome-word u n v e).0 in refused-later n (le-ltb 0 n (omega arith)) refl

six : (b : Bool) (rest : ℕ) → refuse (ltb 0 (refuse b 6 0)) (refuse b 6 0) rest ≡ refuse b 6 rest
six true rest = refl
six false rest = refl

module _ (nv w count : ℕ) (ops operands : List ℕ) (m window : ℕ) (words : List ℕ) where
  -- too few words for one record; and enough
  pub one-short : too_short count ops operands ≡ false → length words < nv → (too_short count ops operands || too_few nv 1 words (0 ∷ [])) ≡ true
  one-short s h = or_later s (or_here _ (lt-ltb (length words) (nv * 1) (omega arith)))

  pub one-fits : too_short count ops operands ≡ false → nv ≤ length words → (too_short count ops operands || too_few nv 1 words (0 ∷ [])) ≡ false
  one-fits s h = or_later s (or_later (le-ltb (length words) (nv * 1) (omega arith)) (le-ltb 1 1 (omega arith)))

  -- 6 and 10, where nothing before them applies
  pub last_numbers : bad_count nv ≡ false → bad_width w ≡ false → (too_short count ops operands || too_few nv 1 words (0 ∷ [])) ≡ false
      → refuse (ltb 0 (refuse (not_formula nv count ops operands) 6 0)) (refuse (not_formula nv count ops operands) 6 0) (refuse (bad_window m window) 10 0)
      ≡ run_refusal nv w count ops operands m window 1 words (0 ∷ [])
  unfolding run_refusal
  last_numbers a b c = six (not_formula nv count ops operands) (refuse (bad_window m window) 10 0) ∙ sym (refused-later 1 a (refused-later 2 b (refused-later 4 c refl)))
