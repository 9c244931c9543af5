-- Formulas: tokens in postfix, read by one stack machine over any algebra. Assumes nothing.
use Rattle.std.specs.Prelude.{Bool, true, false, not, cond, ◌&&◌, ℕ, zero, suc, ltb, length, get_or}
use mathlib.Core.List.{List, [], ◌∷◌, ◌++◌}
use Rattle.std.proofs.Math.Option.{Option, none, some}
use Rattle.limits.specs.Refusal.{outside_of}
use Rattle.row_gates.specs.declared.Gate.{Gate}
use Rattle.row_gates.specs.declared.Gate.TheVariants.{And, Or, Xor, Add, Mul}
use Rattle.expr.specs.declared.Token.{Token}
use Rattle.expr.specs.declared.Token.TheVariants.{Constant, Variable, Binary, Not, Neg, Bad}

-- ---- tokens
-- 01, From heap ..: operands of opcodes 2 to 8 are 0
abbrev pub plain : Token → ℕ → Token
plain t zero = t
plain t (suc operand) = Bad

-- 01, From heap ..: 0 Constant, 1 Variable, 2 Add, 3 Mul, 4 And, 5 Or, 6 Xor, 7 Not, 8 Neg. `Bad` is every other token
unfoldable pub token_of : ℕ → ℕ → Token
token_of zero k = Constant k
token_of (suc zero) k = Variable k
token_of (suc (suc zero)) k = plain (Binary Add) k
token_of (suc (suc (suc zero))) k = plain (Binary Mul) k
token_of (suc (suc (suc (suc zero)))) k = plain (Binary And) k
token_of (suc (suc (suc (suc (suc zero))))) k = plain (Binary Or) k
token_of (suc (suc (suc (suc (suc (suc zero)))))) k = plain (Binary Xor) k
token_of (suc (suc (suc (suc (suc (suc (suc zero))))))) k = plain Not k
token_of (suc (suc (suc (suc (suc (suc (suc (suc zero)))))))) k = plain Neg k
token_of (suc (suc (suc (suc (suc (suc (suc (suc (suc n))))))))) k = Bad

-- the other way: the opcode and the operand of a token. 01, From heap ..: unused token places hold opcode 255 and operand 0
abbrev pub opcode_of : Token → ℕ
opcode_of (Constant k) = 0
opcode_of (Variable i) = 1
opcode_of (Binary Add) = 2
opcode_of (Binary Mul) = 3
opcode_of (Binary And) = 4
opcode_of (Binary Or) = 5
opcode_of (Binary Xor) = 6
opcode_of Not = 7
opcode_of Neg = 8
opcode_of Bad = 255

abbrev pub operand_of : Token → ℕ
operand_of (Constant k) = k
operand_of (Variable i) = i
operand_of (Binary g) = 0
operand_of Not = 0
operand_of Neg = 0
operand_of Bad = 0

-- how many values a token takes
unfoldable pub arity : Token → ℕ
arity (Constant k) = 0
arity (Variable i) = 0
arity (Binary g) = 2
arity Not = 1
arity Neg = 1
arity Bad = 0

-- 01, From heap ..: two parallel arrays, opcodes and operands. The token at a place; past the end of either array there is none, which is `Bad` too
unfoldable pub token_at : List ℕ → List ℕ → ℕ → Token
unfolding token_of
token_at ops operands i =
    cond (ltb i (length ops) && ltb i (length operands)) (token_of (get_or ops i 0) (get_or operands i 0)) Bad

-- 01, From heap ..: the token count first. The first `count` tokens
unfoldable pub tokens : ℕ → List ℕ → List ℕ → List Token
unfolding token_at
tokens zero ops operands = []
tokens (suc n) ops operands = tokens n ops operands ++ (token_at ops operands n ∷ [])

-- ---- the machine
-- what each token does with values of A
pub record Alg (A : Type 0) : Type 0 where
  pub on_constant : ℕ → A
  pub on_variable : ℕ → A
  pub on_not : A → A
  pub on_neg : A → A
  pub on_gate : Gate → A → A → A

module _ {A : Type 0} (m : Alg A) where
  -- one token on a stack, the top first: none where an operand is missing
  unfoldable pub step : Token → List A → Option (List A)
  step (Constant k) st = some (m.on_constant k ∷ st)
  step (Variable i) st = some (m.on_variable i ∷ st)
  step Not [] = none
  step Not (a ∷ st) = some (m.on_not a ∷ st)
  step Neg [] = none
  step Neg (a ∷ st) = some (m.on_neg a ∷ st)
  step (Binary g) [] = none
  step (Binary g) (b ∷ []) = none
  step (Binary g) (b ∷ (a ∷ st)) = some (m.on_gate g a b ∷ st)
  step Bad st = none

  -- 01, From heap ..: every formula is read from left to right
  unfoldable pub run : List Token → List A → Option (List A)
  unfolding step
  run [] st = some st
  run (t ∷ ts) st = elim (step t st) [ none ↦ none | some next ↦ run ts next ]

-- 01, Turned back, 6: exactly one value left
unfoldable pub only : {A : Type 0} → Option (List A) → Option A
only none = none
only (some []) = none
only (some (a ∷ [])) = some a
only (some (a ∷ (b ∷ st))) = none

-- the value that the whole list leaves, none where it isn't exactly one
unfoldable pub whole : {A : Type 0} → Alg A → List Token → Option A
unfolding run only
whole m ts = only (run m ts [])

-- the value, and another where there is none
unfoldable pub or_else : {A : Type 0} → A → Option A → A
or_else other none = other
or_else other (some a) = a

-- ---- the test
pub data Mark : Type 0 where
  mark : Mark

-- the algebra that only counts the values
unfoldable pub mark_alg : Alg Mark
mark_alg = record { on_constant = λ k. mark; on_variable = λ i. mark; on_not = λ a. mark; on_neg = λ a. mark; on_gate = λ g a b. mark }

abbrev pub is_some : {A : Type 0} → Option A → Bool
is_some none = false
is_some (some a) = true

-- 01, Turned back, 6: no operand missing, exactly one value left
unfoldable pub leaves_one : List Token → Bool
unfolding mark_alg whole
leaves_one ts = is_some (whole mark_alg ts)

-- 01, Turned back, 6: no unknown opcode, no nonzero unused operand (both are `Bad`), a variable below the count
unfoldable pub known : ℕ → Token → Bool
known nv (Constant k) = true
known nv (Variable i) = ltb i nv
known nv (Binary g) = true
known nv Not = true
known nv Neg = true
known nv Bad = false

unfoldable pub all_known : ℕ → List Token → Bool
unfolding known
all_known nv [] = true
all_known nv (t ∷ ts) = known nv t && all_known nv ts

-- 01, Turned back, 6: a formula has 1 to 64 tokens, all known, no operand missing, exactly one value left
unfoldable pub is_formula : ℕ → List Token → Bool
unfolding all_known leaves_one
is_formula nv ts = not (outside_of 1 64 (length ts)) && (all_known nv ts && leaves_one ts)
