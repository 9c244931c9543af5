-- Laws of tokens and of how they are read. Assumes nothing.
use mathlib.Core.Path.{◌≡◌, refl, sym, ap, ap₂, ◌∙◌}
use mathlib.Core.Bool.{Bool, cond, ◌&&◌}
use mathlib.Core.List.{List, [], ◌∷◌, ◌++◌, map}
use Prim.Native.Nat.{ℕ, zero, suc, ◌+◌, ◌≤◌, ◌<◌}
use native.Mathlib.Numerals.{add-one}
use native.Mathlib.Omega.{arith}
use borrow.Author.Tests.{lt-ltb}
use lib.Dec.{leb-suc-suc}
use lib.ListN.{length, get_or, take, drop, length-append, get_or-append}
use lib.Seq.{get_or_at, drop-cons, take_all, take-append-le}
use Rattle.limits.proofs.Refusals.{le_or_lt}
use mathlib.Core.Logic.{◌⊎◌, inl, inr}
use Rattle.row_gates.specs.declared.Gate.TheVariants.{And, Or, Xor, Add, Mul}
use Rattle.expr.specs.declared.Token.{Token}
use Rattle.expr.specs.declared.Token.TheVariants.{Constant, Variable, Binary, Not, Neg, Bad}
use Rattle.expr.specs.Formula.{token_of, opcode_of, operand_of, token_at, tokens}

-- ---- the token at a place
module _ (ops operands : List ℕ) (i : ℕ) where
  pub token_in : i < length ops → i < length operands → token_at ops operands i ≡ token_of (get_or ops i 0) (get_or operands i 0)
  unfolding token_at
  token_in h k = simp (lt-ltb i (length ops) h, lt-ltb i (length operands) k)

-- ---- the first tokens
module _ (ops operands : List ℕ) where
  pub tokens-length : (n : ℕ) → length (tokens n ops operands) ≡ n
  unfolding tokens
  tokens-length zero = refl
  tokens-length (suc n) =
      length-append (tokens n ops operands) (token_at ops operands n ∷ []) ∙ ap (λ (k : ℕ). k + 1) (tokens-length n) ∙ add-one n

  pub tokens-take : (m n : ℕ) → m ≤ n → take m (tokens n ops operands) ≡ tokens m ops operands
  unfolding tokens
  tokens-take zero n h = refl
  tokens-take (suc m) zero h = absurd (omega arith)
  tokens-take (suc m) (suc n) h = go (tokens-take (suc m) n) (le_or_lt (suc m) n)
    where
      go : (suc m ≤ n → take (suc m) (tokens n ops operands) ≡ tokens (suc m) ops operands) → (suc m ≤ n) ⊎ (n < suc m) → take (suc m) (tokens (suc n) ops operands) ≡ tokens (suc m) ops operands
      go below (inl k) =
          take-append-le (suc m) (tokens n ops operands) (token_at ops operands n ∷ []) (omega (arith, tokens-length n)) ∙ below k
      go below (inr k) =
          let e : m ≡ n = omega arith in
          ap (λ (j : ℕ). take (suc j) (tokens (suc n) ops operands)) e
          ∙ take_all (suc n) (tokens (suc n) ops operands) (omega (arith, tokens-length (suc n)))
          ∙ ap (λ (j : ℕ). tokens (suc j) ops operands) (sym e)

  pub tokens-at : (n i : ℕ) → i < n → get_or (tokens n ops operands) i Bad ≡ token_at ops operands i
  unfolding tokens
  tokens-at zero i h = absurd (omega arith)
  tokens-at (suc n) i h = go (tokens-at n i) (le_or_lt n i)
    where
      go : (i < n → get_or (tokens n ops operands) i Bad ≡ token_at ops operands i) → (n ≤ i) ⊎ (i < n) → get_or (tokens (suc n) ops operands) i Bad ≡ token_at ops operands i
      go below (inl k) =
          let e : i ≡ n = omega arith in
          ap (λ (j : ℕ). get_or (tokens (suc n) ops operands) j Bad) e
          ∙ get_or_at (tokens n ops operands) (token_at ops operands n) [] Bad n (tokens-length n)
          ∙ ap (token_at ops operands) (sym e)
      go below (inr k) =
          get_or-append (tokens n ops operands) (token_at ops operands n ∷ []) Bad i (omega (arith, tokens-length n)) ∙ below k

  -- the rest from a place on begins with the token there
  pub tokens-drop : (n i : ℕ) → i < n → drop i (tokens n ops operands) ≡ token_at ops operands i ∷ drop (suc i) (tokens n ops operands)
  tokens-drop n i h =
      drop-cons (tokens n ops operands) i Bad (omega (arith, tokens-length n))
      ∙ ap (λ (t : Token). t ∷ drop (suc i) (tokens n ops operands)) (tokens-at n i h)

  -- the same, with the code's `i + 1`
  pub tokens-next : (n i : ℕ) (t : Token) → i < n → token_at ops operands i ≡ t → drop i (tokens n ops operands) ≡ t ∷ drop (i + 1) (tokens n ops operands)
  tokens-next n i t h e =
      tokens-drop n i h ∙ ap₂ (λ (x : Token) (j : ℕ). x ∷ drop j (tokens n ops operands)) e (sym (add-one i))

-- ---- reading back what was written
pub token_back : (t : Token) → token_of (opcode_of t) (operand_of t) ≡ t
unfolding token_of
token_back (Constant k) = refl
token_back (Variable i) = refl
token_back (Binary And) = refl
token_back (Binary Or) = refl
token_back (Binary Xor) = refl
token_back (Binary Add) = refl
token_back (Binary Mul) = refl
token_back Not = refl
token_back Neg = refl
token_back Bad = refl

token_at-suc : (o k : ℕ) (ops operands : List ℕ) (i : ℕ) → token_at (o ∷ ops) (k ∷ operands) (suc i) ≡ token_at ops operands i
unfolding token_at
token_at-suc o k ops operands i =
    ap₂ (λ (x y : Bool). cond (x && y) (token_of (get_or ops i 0) (get_or operands i 0)) Bad) (leb-suc-suc (suc i) (length ops)) (leb-suc-suc (suc i) (length operands))

pub tokens_cons : (n o k : ℕ) (ops operands : List ℕ) → tokens (suc n) (o ∷ ops) (k ∷ operands) ≡ token_of o k ∷ tokens n ops operands
unfolding tokens token_at
tokens_cons zero o k ops operands = ap (λ (t : Token). t ∷ []) (token_in (o ∷ ops) (k ∷ operands) 0 (omega arith) (omega arith))
tokens_cons (suc n) o k ops operands = ap₂ (λ (l : List Token) (t : Token). l ++ (t ∷ [])) (tokens_cons n o k ops operands) (token_at-suc o k ops operands n)

pub tokens-back : (ts : List Token) (ops operands : List ℕ) → tokens (length ts) (map opcode_of ts ++ ops) (map operand_of ts ++ operands) ≡ ts
unfolding tokens
tokens-back [] ops operands = refl
tokens-back (t ∷ ts) ops operands =
    tokens_cons (length ts) (opcode_of t) (operand_of t) (map opcode_of ts ++ ops) (map operand_of ts ++ operands)
    ∙ ap₂ (λ (x : Token) (l : List Token). x ∷ l) (token_back t) (tokens-back ts ops operands)
