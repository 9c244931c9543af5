-- 02, 2.2: which opcodes may be picked, and what is drawn, as statements about 01's formula test. Each type is a statement; its proof bears its name in small letters. Assumes nothing.
use Rattle.std.specs.Prelude.{◌≡◌, true, false, List, [], ◌∷◌, ◌++◌, ℕ, zero, suc, ◌+◌, ◌%◌, ◌^◌, ◌<◌, length, replicate}
use Rattle.std.proofs.Math.Option.{some}
use Rattle.arrays.specs.Lists.{In}
use Rattle.limits.specs.Refusal.{bad_count}
use Rattle.probe_points.specs.Points.{state_after}
use Rattle.expr.specs.declared.Token.{Token}
use Rattle.expr.specs.declared.Token.TheVariants.{Constant, Variable, Binary, Not, Neg, Bad}
use Rattle.expr.specs.Formula.{mark_alg, run, all_known, is_formula, opcode_of}
use Rattle.expr.specs.Formula.Mark.{mark}
use Rattle.load_draw.specs.Draw.{drawn_word, can_leave_one, choices, formula_from, bad_limit}

-- ---- which opcodes may be picked
-- tokens that leave exactly one value of d, none of their operands missing
abbrev pub LeaveOne : List Token → ℕ → Type 0
LeaveOne ts d = run mark_alg ts (replicate d mark) ≡ some (mark ∷ [])

-- r tokens over nv variables that leave exactly one value after those of `begun`
pub record Ending (nv : ℕ) (begun : List Token) (d r : ℕ) : Type 0 where
  pub rest : List Token
  pub many : length rest ≡ r
  pub all : all_known nv rest ≡ true
  pub one : LeaveOne (begun ++ rest) d

-- 02, 2.2: the rest of the length can still leave exactly one value: exactly if some sequence of that many tokens does
pub record CanLeave (d r : ℕ) : Type 0 where
  pub does : can_leave_one d r ≡ true → (nv : ℕ) → Ending nv [] d r
  pub only : (rest : List Token) → length rest ≡ r → LeaveOne rest d → can_leave_one d r ≡ true

abbrev pub CanLeaveExactly : Type 0
CanLeaveExactly = (d r : ℕ) → CanLeave d r

-- 02, 2.2: the opcodes after which the rest of the length can still leave exactly one value: those of the tokens that some r tokens complete, with d values before
pub record MayCome (d r : ℕ) (t : Token) : Type 0 where
  pub does : In (opcode_of t) (choices d r) → (nv : ℕ) → Ending nv (t ∷ []) d r
  pub only : (rest : List Token) → length rest ≡ r → LeaveOne (t ∷ rest) d → In (opcode_of t) (choices d r)

abbrev pub ChoicesExactly : Type 0
ChoicesExactly = (d r : ℕ) (t : Token) → MayCome d r t

-- there is one to pick exactly where the tokens to come, the next and r after it, can leave one value
pub record SomeChoice (d r : ℕ) : Type 0 where
  pub does : can_leave_one d (suc r) ≡ true → 0 < length (choices d r)
  pub only : 0 < length (choices d r) → can_leave_one d (suc r) ≡ true

abbrev pub ChoiceExactly : Type 0
ChoiceExactly = (d r : ℕ) → SomeChoice d r

-- ---- what is drawn
-- 02, 2.2: every formula drawn passes 01's formula test
abbrev pub EveryFormulaPasses : Type 0
EveryFormulaPasses = (nv w limit s : ℕ) → bad_count nv ≡ false → bad_limit limit ≡ false → is_formula nv (formula_from nv w limit s).form ≡ true

-- 02, 2.2: a length is 1 plus a draw modulo the limit
abbrev pub LengthDrawn : Type 0
LengthDrawn = (nv w limit s : ℕ) → length (formula_from nv w limit s).form ≡ 1 + drawn_word s % limit

-- 02, 2.2: a constant draws its word, reduced
abbrev pub ConstantsReduced : Type 0
ConstantsReduced = (nv w limit s k : ℕ) → In (Constant k) (formula_from nv w limit s).form → k < 2 ^ w

-- how many tokens of a formula draw twice
unfoldable pub leaves : List Token → ℕ
leaves [] = zero
leaves (Constant k ∷ ts) = suc (leaves ts)
leaves (Variable i ∷ ts) = suc (leaves ts)
leaves (Binary g ∷ ts) = leaves ts
leaves (Not ∷ ts) = leaves ts
leaves (Neg ∷ ts) = leaves ts
leaves (Bad ∷ ts) = leaves ts

-- 02, 2.2: one draw for each choice: the length, each opcode, and the word or number of each leaf
abbrev pub OneDrawForEachChoice : Type 0
OneDrawForEachChoice = (nv w limit s : ℕ) → let d = formula_from nv w limit s in d.state ≡ state_after (1 + (length d.form + leaves d.form)) s
