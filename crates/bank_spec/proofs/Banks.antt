-- The theorems of specs/Facts on every bank that 01's build gives: the general facts of Growth and Soundness at 01's stock, unary tokens and seeds. Assumes nothing.
use mathlib.Core.List.{List, [], ◌∷◌}
use Prim.Native.Nat.{ℕ, ◌+◌, ◌*◌, ◌≤◌, ◌<◌}
use native.Mathlib.Omega.{arith}
use lib.ListN.{length, get_or}
use Rattle.expr.specs.declared.Token.{Token}
use Rattle.expr.specs.declared.Token.TheVariants.{Constant, Not, Neg}
use Rattle.probe_points.specs.declared.Point.{Point}
use Rattle.probe.specs.FormulaRow.{row_of}
use Rattle.bank_spec.specs.Push.{Atom, no_atom}
use Rattle.bank_spec.specs.Stock.{constants, stock}
use Rattle.bank_spec.specs.Bank.{seeds_of, bank_of}
use Rattle.bank_spec.specs.Facts.{Holds, base_of, before_turn, BankIsSound, BankIsComplete, BankIsWide}
use Rattle.bank_spec.proofs.Lists.{Every}
use Rattle.bank_spec.proofs.Growth.{push_all-few, turns-few, built-few, built-formula, built-turn, built_seed}
use Rattle.bank_spec.proofs.Soundness.{Fine, fine_fits, fits-tokens, sound_row, Unary, neg_unary, not_unary, Sound, sound_at, base_at-turn, built_sound}
use Rattle.bank_spec.proofs.Stocks.{stock-fits, stock-few, seeds_few}

-- 01, Bank: Neg and Not
abbrev pub unaries : List Token
unaries = Neg ∷ (Not ∷ [])

-- both are unary
pub unaries_unary : Every Unary unaries
unaries_unary = (neg_unary, (not_unary, tt))

-- a fine atom of size at most n has at most n tokens
pub fine_tokens : (nv w : ℕ) (points : List Point) (n : ℕ) (a : Atom) → Fine nv w points n a → length a.form ≤ n
fine_tokens nv w points n a f = fits-tokens nv n a.form (fine_fits nv w points n a f)

module _ (nv w : ℕ) (points : List Point) where
  -- ---- before the turns, and at each turn
  -- at most 157 atoms before the turns
  pub base_few : nv ≤ 6 → length (base_of nv w points) ≤ 157
  base_few h = omega (arith, push_all-few w points [] (stock nv w), stock-few nv w h)

  module _ (t : ℕ) (h : t ≤ length (base_of nv w points)) where
    -- two atoms more for each turn, at most
    pub before-turn-few : length (before_turn nv w points t) ≤ length (base_of nv w points) + 2 * t
    before-turn-few = omega (arith, turns-few w points unaries (base_of nv w points) 0 t)

    -- each base atom is still of size at most 5, and so of at most 5 tokens
    pub before-turn-small : (k : ℕ) → k < length (base_of nv w points) → Fine nv w points 5 (get_or (before_turn nv w points t) k no_atom)
    before-turn-small = base_at-turn nv w points 5 (omega arith) (stock nv w) unaries (stock-fits nv w) unaries_unary t h

  -- ---- the whole bank
  module _ (target : List ℕ) where
    -- all sound and of size at most 6, no two of one row
    pub bank_sound : Sound nv w points 6 (bank_of nv w points target)
    unfolding bank_of
    bank_sound = built_sound nv w points 5 (omega arith) (stock nv w) unaries (stock-fits nv w) unaries_unary (seeds_of target)

    -- so each slot
    pub bank_fine : (k : ℕ) → k < length (bank_of nv w points target) → Fine nv w points 6 (get_or (bank_of nv w points target) k no_atom)
    bank_fine = sound_at nv w points 6 (bank_of nv w points target) bank_sound

    -- 3 × 157 + 8
    pub bank-few : nv ≤ 6 → length (bank_of nv w points target) ≤ 479
    unfolding bank_of
    bank-few h = omega (arith, built-few w points (stock nv w) unaries (seeds_of target), base_few h, seeds_few target)

-- 01, Bank: at most 479 atoms, each of weighted size at most 6 and its formula's; no two share a row
pub bank-is_sound : BankIsSound
bank-is_sound nv w points target l h = record {
  few = bank-few nv w points target h;
  atom = λ k m. (bank_fine nv w points target k m).sound;
  size = λ k m. (bank_fine nv w points target k m).size;
  tokens = λ k m. fine_tokens nv w points 6 (get_or (bank_of nv w points target) k no_atom) (bank_fine nv w points target k m);
  distinct = (bank_sound nv w points target).distinct;
}

-- nothing that was pushed is lost
pub bank-is_complete : BankIsComplete
unfolding bank_of
bank-is_complete nv w points target = record {
  stocked = built-formula w points (stock nv w) unaries (seeds_of target);
  negated = λ k h. built-turn w points (stock nv w) unaries (seeds_of target) k 0 h (omega arith);
  inverted = λ k h. built-turn w points (stock nv w) unaries (seeds_of target) k 1 h (omega arith);
  seeded = built_seed w points (stock nv w) unaries (seeds_of target);
}

-- so the row of the constant 0, the first of the stock, is held
pub zero_held : (nv w : ℕ) (points : List Point) (target : List ℕ) → Holds (bank_of nv w points target) (row_of w points (Constant 0 ∷ []))
unfolding stock constants
zero_held nv w points target = (bank-is_complete nv w points target).stocked 0 (omega arith)

-- each row has a word for each point
pub bank-is-wide : BankIsWide
bank-is-wide nv w points target k h = sound_row nv w points (get_or (bank_of nv w points target) k no_atom) (bank_fine nv w points target k h).sound
