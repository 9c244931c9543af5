-- The text that the listing program writes, as bytes, from bank and index; formulas and refusals are the load program's too. Assumes nothing.
use Rattle.std.specs.Prelude.{Bool, cond, ℕ, zero, suc, ◌+◌, ◌/◌, ◌%◌, ltb, length}
use mathlib.Core.List.{List, [], ◌∷◌, ◌++◌, flat_map}
use Rattle.std.proofs.Math.Option.{Option, none, some}
use Rattle.row_gates.specs.Gates.{gate_number}
use Rattle.row_gates.specs.declared.Gate.TheVariants.{And, Or, Xor, Add, Mul}
use Rattle.expr.specs.declared.Token.{Token}
use Rattle.expr.specs.declared.Token.TheVariants.{Constant, Variable, Binary, Not, Neg, Bad}
use Rattle.expr_cost.specs.declared.Cost.{Cost}
use Rattle.bank_spec.specs.Push.{Atom}
use Rattle.index_spec.specs.Index.{Pair, Index}

-- the decimal digits of n, at most k of them, the most significant first
unfoldable pub digits_of : ℕ → ℕ → List ℕ
digits_of zero n = []
digits_of (suc k) n = cond (ltb n 10) ((48 + n) ∷ []) (digits_of k (n / 10) ++ ((48 + n % 10) ∷ []))

-- a number below 2^64 has at most 20
unfoldable pub decimal : ℕ → List ℕ
unfolding digits_of
decimal n = digits_of 20 n

-- a number and the byte after it: 32 a blank, 10 the line's end
abbrev pub field : ℕ → ℕ → List ℕ
field n end = decimal n ++ (end ∷ [])

-- 01, Listing program: `atoms `, `pairs `, `whole` and `cut` with the line's end, `refused `
abbrev pub atoms_word : List ℕ
atoms_word = 97 ∷ 116 ∷ 111 ∷ 109 ∷ 115 ∷ 32 ∷ []

abbrev pub pairs_word : List ℕ
pairs_word = 112 ∷ 97 ∷ 105 ∷ 114 ∷ 115 ∷ 32 ∷ []

abbrev pub whole_word : List ℕ
whole_word = 119 ∷ 104 ∷ 111 ∷ 108 ∷ 101 ∷ 10 ∷ []

abbrev pub cut_word : List ℕ
cut_word = 99 ∷ 117 ∷ 116 ∷ 10 ∷ []

abbrev pub refused_word : List ℕ
refused_word = 114 ∷ 101 ∷ 102 ∷ 117 ∷ 115 ∷ 101 ∷ 100 ∷ 32 ∷ []

-- 01, Listing program: one line `atoms N pairs M whole` (or `cut`)
unfoldable pub head_line : ℕ → ℕ → Bool → List ℕ
unfolding decimal
head_line n m cut = atoms_word ++ (field n 32 ++ (pairs_word ++ (field m 32 ++ cond cut cut_word whole_word)))

-- 01, Listing program: cost lines (size, products, depth)
unfoldable pub cost_line : Cost → List ℕ
unfolding decimal
cost_line c = field c.size 32 ++ (field c.products 32 ++ field c.depth 10)

-- 01, Listing program: `c` constant, `v` variable, `+ * & | ^ ! -` for opcodes 2 to 8
unfoldable pub token_text : Token → List ℕ
unfolding decimal
token_text (Constant k) = 99 ∷ decimal k
token_text (Variable i) = 118 ∷ decimal i
token_text (Binary Add) = 43 ∷ []
token_text (Binary Mul) = 42 ∷ []
token_text (Binary And) = 38 ∷ []
token_text (Binary Or) = 124 ∷ []
token_text (Binary Xor) = 94 ∷ []
token_text Not = 33 ∷ []
token_text Neg = 45 ∷ []
token_text Bad = []

-- 01, Listing program: blanks between
unfoldable pub tokens_text : List Token → List ℕ
unfolding token_text
tokens_text [] = []
tokens_text (t ∷ []) = token_text t
tokens_text (t ∷ (u ∷ ts)) = token_text t ++ (32 ∷ tokens_text (u ∷ ts))

-- 01, Listing program: a formula as a line
unfoldable pub formula_line : List Token → List ℕ
unfolding tokens_text
formula_line ts = tokens_text ts ++ (10 ∷ [])

-- 01, Listing program: lines `gate b c` with the gate's number
unfoldable pub pair_line : Pair → List ℕ
unfolding decimal
pair_line p = field (gate_number p.gate) 32 ++ (field p.b 32 ++ field p.c 10)

-- 01, Listing program: the head, N cost lines, N formulas, M lines of pairs
unfoldable pub listing_of : List Atom → Index → List ℕ
unfolding head_line cost_line formula_line pair_line flat_map
listing_of bank index =
    head_line (length bank) (length index.pairs) index.cut
    ++ (flat_map (λ (a : Atom). cost_line a.cost) bank
    ++ (flat_map (λ (a : Atom). formula_line a.form) bank
    ++ flat_map pair_line index.pairs))

-- 01, Listing program: turned back: one line, `refused`, a blank and the number
unfoldable pub refused_line : ℕ → List ℕ
unfolding decimal
refused_line number = refused_word ++ field number 10

-- 01, Turned back: 9 precedes all; then what is refused of the numbers, then the text of them. What a program writes of the numbers that it read, none where 9 applies
unfoldable pub answer_of : (List ℕ → ℕ) → (List ℕ → List ℕ) → Option (List ℕ) → List ℕ
unfolding refused_line
answer_of refusal write none = refused_line 9
answer_of refusal write (some ns) = cond (ltb 0 (refusal ns)) (refused_line (refusal ns)) (write ns)
