-- What holds of every gate and residual, for every width and every two words: 02, 2.3, as types; proofs/GateLaws and proofs/Rows have their proofs.
-- Assumes nothing.
use Rattle.std.specs.Prelude.{◌≡◌, Bool, true, false, List, ℕ, ◌%◌, ◌^◌, ◌≤◌, ◌<◌, get_or}
use Rattle.limits.specs.Refusal.{bad_width, answer}
use Rattle.row_gates.specs.Gates.{joined, gate_of, invertible, residual_of, gate_row, residual_row, reduced_row, matched}
use Rattle.row_gates.specs.declared.Gate.{Gate}
use Rattle.row_gates.specs.declared.Gate.TheVariants.{And, Or, Xor, Add, Mul}

-- And, Or and Xor, which go bit by bit
abbrev pub bitwise : Gate → Bool
bitwise And = true
bitwise Or = true
bitwise Xor = true
bitwise Add = false
bitwise Mul = false

-- ---- gates
-- 02, 2.3: results are reduced to the width: every word of a gate's row is below 2^w
abbrev pub GateReduces : Type 0
GateReduces = (g : Gate) (w : ℕ) (a b : List ℕ) (j : ℕ) → get_or (gate_row g w a b) j 0 < 2 ^ w

-- so `gate_matches` never says yes of a target with a word at or above 2^w: it is compared as it is
abbrev pub AboveNeverMatches : Type 0
AboveNeverMatches =
    (g : Gate) (w : ℕ) (a b target : List ℕ) (j : ℕ) → bad_width w ≡ false → 2 ^ w ≤ get_or target j 0 → matched g w a b target ≡ answer false

-- raw words give the row that their reduced words give
abbrev pub RawAsReduced : Type 0
RawAsReduced = (g : Gate) (w : ℕ) (a b : List ℕ) → gate_row g w a b ≡ gate_row g w (reduced_row w a) (reduced_row w b)

-- of reduced words And, Or and Xor go bit by bit, as before 2.3, as in the Rust, and as 01 has the evaluator
abbrev pub ReducedBitByBit : Type 0
ReducedBitByBit = (g : Gate) → bitwise g ≡ true → (w a b : ℕ) → a < 2 ^ w → b < 2 ^ w → gate_of g w a b ≡ joined g a b

-- ---- residuals
-- 02, 2.3: the inverse of Xor likewise
abbrev pub ResidualReduces : Type 0
ResidualReduces = (g : Gate) (w : ℕ) (target a : List ℕ) (j : ℕ) → get_or (residual_row g w target a) j 0 < 2 ^ w

-- raw words have the residual that their reduced words have
abbrev pub RawResidualAsReduced : Type 0
RawResidualAsReduced = (g : Gate) (w : ℕ) (target a : List ℕ) → residual_row g w target a ≡ residual_row g w (reduced_row w target) (reduced_row w a)

-- 01, cobra-simd lib.rs: Xor and Add invert. The residual completes a to the target modulo 2^w, for every word of a and of the target
abbrev pub ResidualCompletes : Type 0
ResidualCompletes = (g : Gate) → invertible g ≡ true → (w target a : ℕ) → gate_of g w a (residual_of g w target a) ≡ target % 2 ^ w

-- and every word that does so is the residual modulo 2^w
abbrev pub ResidualOnly : Type 0
ResidualOnly = (g : Gate) → invertible g ≡ true → (w target a b : ℕ) → gate_of g w a b ≡ target % 2 ^ w → b % 2 ^ w ≡ residual_of g w target a
