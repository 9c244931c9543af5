-- How long the line of a formula, and that of a refusal, can get. Assumes nothing.
use mathlib.Core.List.{List, [], ◌∷◌}
use Prim.Native.Nat.{ℕ, ◌+◌, ◌*◌, ◌≤◌}
use native.Mathlib.Omega.{arith}
use lib.ListN.{length, length-append}
use Rattle.row_gates.specs.declared.Gate.TheVariants.{And, Or, Xor, Add, Mul}
use Rattle.expr.specs.declared.Token.{Token}
use Rattle.expr.specs.declared.Token.TheVariants.{Constant, Variable, Binary, Not, Neg, Bad}
use Rattle.text_print.specs.Text.{decimal, token_text, tokens_text, formula_line, refused_line}
use Rattle.text_print.specs.Printing.{token_max, next_max, refusal_max}
use Rattle.text_print.proofs.Decimals.{decimal-length}

token_length : (t : Token) → length (token_text t) ≤ token_max
unfolding token_text
token_length (Constant k) = omega (arith, decimal-length k)
token_length (Variable i) = omega (arith, decimal-length i)
token_length (Binary And) = omega arith
token_length (Binary Or) = omega arith
token_length (Binary Xor) = omega arith
token_length (Binary Add) = omega arith
token_length (Binary Mul) = omega arith
token_length Not = omega arith
token_length Neg = omega arith
token_length Bad = omega arith

tokens-length : (ts : List Token) → length (tokens_text ts) ≤ next_max * length ts
unfolding tokens_text
tokens-length [] = omega arith
tokens-length (t ∷ []) = omega (arith, token_length t)
tokens-length (t ∷ (u ∷ ts)) = omega (arith, token_length t, tokens-length (u ∷ ts), length-append (token_text t) (32 ∷ tokens_text (u ∷ ts)))

pub line-length : (ts : List Token) → length (formula_line ts) ≤ next_max * length ts + 1
unfolding formula_line
line-length ts = omega (arith, tokens-length ts, length-append (tokens_text ts) (10 ∷ []))

pub refused-length : (n : ℕ) → length (refused_line n) ≤ refusal_max
unfolding refused_line
refused-length n = omega (arith, decimal-length n, length-append (decimal n) (10 ∷ []))
