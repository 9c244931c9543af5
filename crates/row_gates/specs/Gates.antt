-- Gates on words and on rows. A "row" is 01's term: sixteen words, a formula's values at the sixteen points. Assumes nothing.
use Rattle.std.specs.Prelude.{Bool, true, false, cond, ℕ, zero, suc, ◌+◌, ◌*◌, ◌%◌, ◌^◌, eqb}
use mathlib.Core.List.{List, [], ◌∷◌, map, zip_with}
use Rattle.std.specs.Int.Bits.{bit_and, bit_or, bit_xor}
use Rattle.arith.specs.Word.{sub_of}
use Rattle.limits.specs.Refusal.{refuse, bad_width, Outcome, outcome}
use Rattle.row_gates.specs.declared.Gate.{Gate}
use Rattle.row_gates.specs.declared.Gate.TheVariants.{And, Or, Xor, Add, Mul}

-- 01, From heap ..: Gates are 0 And, 1 Or, 2 Xor, 3 Add, 4 Mul
abbrev pub gate_number : Gate → ℕ
gate_number And = 0
gate_number Or = 1
gate_number Xor = 2
gate_number Add = 3
gate_number Mul = 4

-- the other way; a number above 4 is no gate's, and is taken for Mul where nothing refused it before
abbrev pub gate_at : ℕ → Gate
gate_at zero = And
gate_at (suc zero) = Or
gate_at (suc (suc zero)) = Xor
gate_at (suc (suc (suc zero))) = Add
gate_at (suc (suc (suc (suc k)))) = Mul

-- 01, cobra-simd lib.rs: what a gate makes of two words, as numbers: And, Or and Xor bit by bit, Add the sum, Mul the product
abbrev pub joined : Gate → ℕ → ℕ → ℕ
joined And a b = bit_and a b
joined Or a b = bit_or a b
joined Xor a b = bit_xor a b
joined Add a b = a + b
joined Mul a b = a * b

-- 02, 2.3: And, Or and Xor reduce their results to the width, as Add and Mul do. The one place that says what a gate gives: specs/Facts says what holds of it
unfoldable pub gate_of : Gate → ℕ → ℕ → ℕ → ℕ
gate_of g w a b = joined g a b % 2 ^ w

-- 01, cobra-simd lib.rs: Xor and Add invert
abbrev pub invertible : Gate → Bool
invertible And = false
invertible Or = false
invertible Xor = true
invertible Add = true
invertible Mul = false

-- 01, cobra-simd lib.rs, `gate_residual`: Xor and Add invert, the other gates give zeros. 02, 2.3: the inverse of Xor reduces likewise
unfoldable pub residual_of : Gate → ℕ → ℕ → ℕ → ℕ
residual_of And w target a = 0
residual_of Or w target a = 0
residual_of Xor w target a = bit_xor target a % 2 ^ w
residual_of Add w target a = sub_of (2 ^ w) target a
residual_of Mul w target a = 0

-- 01, cobra-simd lib.rs: rows hold 16 u64. A gate and a residual place by place
unfoldable pub gate_row : Gate → ℕ → List ℕ → List ℕ → List ℕ
unfolding zip_with
gate_row g w a b = zip_with (gate_of g w) a b

unfoldable pub residual_row : Gate → ℕ → List ℕ → List ℕ → List ℕ
unfolding zip_with
residual_row g w target a = zip_with (residual_of g w) target a

-- a row with each word reduced to the width
abbrev pub reduced_row : ℕ → List ℕ → List ℕ
reduced_row w row = map (λ (v : ℕ). v % 2 ^ w) row

-- 01, cobra-simd lib.rs, `gate_matches` compares all sixteen: the rows are equal in every place
unfoldable pub same_row : List ℕ → List ℕ → Bool
same_row [] [] = true
same_row [] (y ∷ ys) = false
same_row (x ∷ xs) [] = false
same_row (x ∷ xs) (y ∷ ys) = cond (eqb x y) (same_row xs ys) false

-- 01, evaluator.rs, Refusals: for a gate on rows 2
abbrev pub gate_refusal : ℕ → ℕ
gate_refusal w = refuse (bad_width w) 2 0

-- what `gate_apply`, `gate_residual` and `gate_matches` answer
abbrev pub applied : Gate → ℕ → List ℕ → List ℕ → Outcome (List ℕ)
applied g w a b = outcome (gate_refusal w) (gate_row g w a b)

abbrev pub residual : Gate → ℕ → List ℕ → List ℕ → Outcome (List ℕ)
residual g w target a = outcome (gate_refusal w) (residual_row g w target a)

abbrev pub matched : Gate → ℕ → List ℕ → List ℕ → List ℕ → Outcome Bool
matched g w a b target = outcome (gate_refusal w) (same_row (gate_row g w a b) target)
