-- What tokens do to a number of values: one step, and which sequences leave one. Assumes nothing.
use mathlib.Core.Path.{◌≡◌, refl, sym, ap, ◌∙◌}
use mathlib.Core.Bool.{true}
use mathlib.Core.Logic.{◌⊎◌, inl, inr}
use mathlib.Core.List.{List, [], ◌∷◌}
use mathlib.Core.Option.{Option, none, some}
use Prim.Native.Nat.{ℕ, zero, suc, ◌+◌, ◌-◌, ◌≤◌, ◌<◌}
use native.Mathlib.Omega.{arith}
use borrow.Author.Tests.{lt-ltb}
use lib.ListN.{length, replicate}
use Rattle.limits.proofs.Refusals.{le_or_lt, and_both}
use Rattle.row_gates.specs.declared.Gate.TheVariants.{And, Or, Xor, Add, Mul}
use Rattle.expr.specs.declared.Token.{Token}
use Rattle.expr.specs.declared.Token.TheVariants.{Constant, Variable, Binary, Not, Neg, Bad}
use Rattle.expr.specs.Formula.{token_of, arity, opcode_of, Mark, mark_alg, step, run, known, all_known}
use Rattle.expr.specs.Formula.Mark.{mark}
use Rattle.expr.proofs.Machine.{none≢some, marks, run-some, run_none, step-low, step_ok}
use Rattle.load_draw.specs.Draw.{takes, can_leave_one}
use Rattle.load_draw.proofs.Picking.{can_yes, can_least, can_most}
use Rattle.load_spec.specs.Formulas.{LeaveOne}

-- ---- values that are only counted
marks-are : (d : ℕ) → replicate d mark ≡ marks d
unfolding marks
marks-are zero = refl
marks-are (suc d) = ap (λ (l : List Mark). mark ∷ l) (marks-are d)

marks-length : (d : ℕ) → length (marks d) ≡ d
unfolding marks
marks-length zero = refl
marks-length (suc d) = ap suc (marks-length d)

-- `LeaveOne` by these
abbrev pub Leaves : List Token → ℕ → Type 0
Leaves ts d = run mark_alg ts (marks d) ≡ some (marks 1)

pub to-leaves : (ts : List Token) (d : ℕ) → LeaveOne ts d → Leaves ts d
unfolding marks
to-leaves ts d e = ap (run mark_alg ts) (sym (marks-are d)) ∙ e

pub from-leaves : (ts : List Token) (d : ℕ) → Leaves ts d → LeaveOne ts d
unfolding marks
from-leaves ts d e = ap (run mark_alg ts) (marks-are d) ∙ e

-- ---- one token
pub arity-most : (t : Token) → arity t ≤ 2
unfolding arity
arity-most (Constant k) = omega arith
arity-most (Variable i) = omega arith
arity-most (Binary g) = omega arith
arity-most Not = omega arith
arity-most Neg = omega arith
arity-most Bad = omega arith

-- what is true of every token but `Bad`
pub record Proper (t : Token) : Type 0 where
  pub below : opcode_of t < 9
  pub same : takes (opcode_of t) ≡ arity t
  pub steps : (d : ℕ) → arity t ≤ d → step mark_alg t (marks d) ≡ some (marks (d - arity t + 1))

proper_gate : (t : Token) → opcode_of t < 9 → takes (opcode_of t) ≡ arity t → known 1 t ≡ true → Proper t
proper_gate t a b e = record { below = a; same = b; steps = λ d h. step_ok 1 t d e h }

pub proper : (t : Token) → (t ≡ Bad) ⊎ Proper t
unfolding arity token_of known
proper (Constant k) = inr (proper_gate (Constant k) (omega arith) refl refl)
proper (Variable i) = inr (record { below = omega arith; same = refl; steps = λ d h. step_ok (suc i) (Variable i) d (lt-ltb i (suc i) (omega arith)) h })
proper (Binary And) = inr (proper_gate (Binary And) (omega arith) refl refl)
proper (Binary Or) = inr (proper_gate (Binary Or) (omega arith) refl refl)
proper (Binary Xor) = inr (proper_gate (Binary Xor) (omega arith) refl refl)
proper (Binary Add) = inr (proper_gate (Binary Add) (omega arith) refl refl)
proper (Binary Mul) = inr (proper_gate (Binary Mul) (omega arith) refl refl)
proper Not = inr (proper_gate Not (omega arith) refl refl)
proper Neg = inr (proper_gate Neg (omega arith) refl refl)
proper Bad = inl refl

-- ---- a token, and then others
-- a first token that leaves one value with the others is proper, has its operands, and leaves the others what they need
pub record First (t : Token) (ts : List Token) (d : ℕ) : Type 0 where
  pub good : Proper t
  pub enough : arity t ≤ d
  pub rest : Leaves ts (d - arity t + 1)

bad-none : (t : Token) (d : ℕ) → t ≡ Bad → step mark_alg t (marks d) ≡ none
unfolding step
bad-none t d e = ap (λ (x : Token). step mark_alg x (marks d)) e

pub first : (t : Token) (ts : List Token) (d : ℕ) → Leaves (t ∷ ts) d → First t ts d
first t ts d e = go (proper t) (le_or_lt (arity t) d)
  where
    go : (t ≡ Bad) ⊎ Proper t → (arity t ≤ d) ⊎ (d < arity t) → First t ts d
    go (inl b) h = absurd (none≢some (sym (run_none mark_alg t ts (marks d) (bad-none t d b)) ∙ e))
    go (inr p) (inl h) = record { good = p; enough = h; rest = sym (run-some mark_alg t ts (marks d) (marks (d - arity t + 1)) (p.steps d h)) ∙ e }
    go (inr p) (inr h) = absurd (none≢some (sym (run_none mark_alg t ts (marks d) (step-low t d h)) ∙ e))

pub onto-leaves : (t : Token) (ts : List Token) (d : ℕ) → Proper t → arity t ≤ d → Leaves ts (d - arity t + 1) → Leaves (t ∷ ts) d
onto-leaves t ts d p h e = run-some mark_alg t ts (marks d) (marks (d - arity t + 1)) (p.steps d h) ∙ e

-- ---- which numbers of values some tokens make one of
size : Option (List Mark) → ℕ
size none = 0
size (some st) = length st

pub leaves_can : (ts : List Token) (d : ℕ) → Leaves ts d → can_leave_one d (length ts) ≡ true
unfolding run size
leaves_can [] d e = let one = sym (marks-length d) ∙ ap size e ∙ marks-length 1 in can_yes d 0 (omega (arith, one)) (omega (arith, one))
leaves_can (t ∷ ts) d e = let f = first t ts d e in go f (leaves_can ts (d - arity t + 1) f.rest)
  where
    go : First t ts d → can_leave_one (d - arity t + 1) (length ts) ≡ true → can_leave_one d (suc (length ts)) ≡ true
    go f h = can_yes d (suc (length ts)) (omega arith) (omega (arith, f.enough, arity-most t, can_most (d - arity t + 1) (length ts) h))

-- r tokens over nv variables that do
pub record Tail (nv d r : ℕ) : Type 0 where
  pub rest : List Token
  pub many : length rest ≡ r
  pub all : all_known nv rest ≡ true
  pub one : Leaves rest d

longer : (nv d e r : ℕ) (t : Token) → known nv t ≡ true → step mark_alg t (marks d) ≡ some (marks e) → Tail nv e r → Tail nv d (suc r)
unfolding all_known
longer nv d e r t k s x = record {
  rest = t ∷ x.rest;
  many = ap suc x.many;
  all = and_both k x.all;
  one = run-some mark_alg t x.rest (marks d) (marks e) s ∙ x.one;
}

-- a value more where there is none, one fewer where there are two, else the same
pub tail : (nv r d : ℕ) → can_leave_one d r ≡ true → Tail nv d r
unfolding all_known run known step marks mark_alg
tail nv zero d h = record {
  rest = [];
  many = refl;
  all = refl;
  one = let e : d ≡ 1 = omega (arith, can_least d 0 h, can_most d 0 h) in ap (λ (n : ℕ). some (marks n)) e;
}
tail nv (suc r) zero h = longer nv 0 1 r (Constant 0) refl refl (tail nv r 1 (can_yes 1 r (omega arith) (omega arith)))
tail nv (suc r) (suc zero) h = longer nv 1 1 r Not refl refl (tail nv r 1 (can_yes 1 r (omega arith) (omega arith)))
tail nv (suc r) (suc (suc d)) h = longer nv (suc (suc d)) (suc d) r (Binary Add) refl refl (tail nv r (suc d) (can_yes (suc d) r (omega arith) (omega (arith, can_most (suc (suc d)) (suc r) h))))
