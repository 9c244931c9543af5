-- What holds of every formula's set, as types; proofs/ has their proofs. Assumes nothing.
use Rattle.std.specs.Prelude.{◌≡◌, true, cond, List, ℕ, ◌%◌, ◌^◌, ◌<◌, get_or}
use Rattle.arith.specs.Word.{bit_of}
use Rattle.expr.specs.declared.Token.{Token}
use Rattle.expr.specs.Formula.{is_formula}
use Rattle.expr_eval.specs.Value.{value_of}
use Rattle.expr_vars.specs.Vars.{set_of, occurs}

-- 02, 2.8: bit i set exactly if variable i occurs in the formula
abbrev pub SetExactly : Type 0
SetExactly = (nv : ℕ) (ts : List Token) → is_formula nv ts ≡ true → (i : ℕ) → bit_of (set_of ts) i ≡ cond (occurs i ts) 1 0

-- 02, 2.8: a six-bit set; of a formula over nv variables it has nv bits
abbrev pub SetIsSmall : Type 0
SetIsSmall = (nv : ℕ) (ts : List Token) → is_formula nv ts ≡ true → set_of ts < 2 ^ nv

-- two inputs alike in the words of a set: in those whose bit is set, modulo 2^w; the others may be any
abbrev pub Alike : ℕ → ℕ → List ℕ → List ℕ → Type 0
Alike w set words others = (i : ℕ) → bit_of set i ≡ 1 → get_or words i 0 % 2 ^ w ≡ get_or others i 0 % 2 ^ w

-- 02, 2.8: two inputs alike in the words of the set give the formula equal values. For all tokens, every width and any number of words
abbrev pub AlikeInputs : Type 0
AlikeInputs = (w : ℕ) (ts : List Token) (words others : List ℕ) → Alike w (set_of ts) words others → value_of w words ts ≡ value_of w others ts
