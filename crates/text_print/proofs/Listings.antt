-- From the text of the arrays' slots to that of bank and index. Assumes nothing.
use mathlib.Core.Path.{◌≡◌, refl, sym, ap, ap₂, ◌∙◌}
use mathlib.Core.Bool.{Bool}
use mathlib.Core.List.{List, [], ◌∷◌, ◌++◌, flat_map, append_assoc, append-nil}
use Prim.Native.Nat.{ℕ, zero, suc, ◌+◌, ◌-◌, ◌*◌, ◌≤◌, ◌<◌}
use native.Mathlib.Nat.{zero-add}
use native.Mathlib.Numerals.{add-one}
use native.Mathlib.Omega.{arith}
use lib.ListN.{length, get_or, take, drop}
use Rattle.arrays.specs.Lists.{count_up}
use Rattle.arrays.proofs.Lists.{count_add, flat_append}
use Rattle.arrays.specs.Parts.{part_at, spread}
use Rattle.arrays.proofs.Parts.{get_d_part, encode_part}
use Rattle.row_gates.specs.declared.Gate.{Gate}
use Rattle.row_gates.specs.declared.Gate.TheVariants.{And, Or, Xor, Add, Mul}
use Rattle.expr.specs.declared.Token.{Token}
use Rattle.expr.specs.declared.Token.TheVariants.{Constant, Variable, Binary, Not, Neg, Bad}
use Rattle.expr.specs.Formula.{token_at, tokens}
use Rattle.expr.proofs.Tokens.{tokens-length}
use Rattle.bank_spec.specs.Push.{Atom, no_atom}
use Rattle.bank_spec.specs.Encoding.{Arrays, written}
use Rattle.bank_spec.proofs.Encodings.{form-back, length_at, ops-at, operands-at, cost-at}
use Rattle.index_spec.specs.Index.{Pair, Index}
use Rattle.index_spec.specs.Encoding.{pair_part}
use Rattle.text_print.specs.Text.{field, head_line, cost_line, token_text, tokens_text, formula_line, pair_line, listing_of}
use Rattle.text_print.specs.Printing.{Wrote, lines_text, numbers_line, numbers_at, formula_at, next_text, sign_of, Holding}
use Rattle.text_print.proofs.Decimals.{then, nothing, reads}

-- ---- lines
-- one line more
pub lines_more : (line : ℕ → List ℕ) (k : ℕ) → lines_text line k ++ line k ≡ lines_text line (k + 1)
unfolding lines_text flat_map count_up
lines_more line k = sym (
    ap (flat_map line) (count_add 0 k 1)
    ∙ flat_append line (count_up 0 k) (count_up (0 + k) 1)
    ∙ ap (λ (l : List ℕ). lines_text line k ++ l) (append-nil (line (0 + k)) ∙ ap line (zero-add k))
    )

-- no lines yet, and one line more, in the buffer
pub no_lines : {l : List ℕ} {i : ℕ} (line : ℕ → List ℕ) → Wrote l i l i (lines_text line 0)
unfolding lines_text
no_lines line = nothing

pub line-more : {l l' l'' : List ℕ} {i r r' : ℕ} (line : ℕ → List ℕ) (k : ℕ) → Wrote l i l' r (lines_text line k) → Wrote l' r l'' r' (line k) → Wrote l i l'' r' (lines_text line (k + 1))
line-more line k p q = reads (lines_more line k) (then p q)

-- the lines of a list's elements, by their places
places : {A : Type 0} (d : A) (g : A → List ℕ) (line : ℕ → List ℕ) (xs : List A) (i : ℕ) → ((k : ℕ) → k < length xs → line (i + k) ≡ g (get_or xs k d)) → flat_map line (count_up i (length xs)) ≡ flat_map g xs
unfolding flat_map count_up
places d g line [] i at = refl
places d g line (x ∷ xs) i at =
    let e : i + 0 ≡ i = omega arith in
    ap₂ (λ (l m : List ℕ). l ++ m) (ap line (sym e) ∙ at 0 (omega arith)) (places d g line xs (suc i) λ k h.
    let f : suc i + k ≡ i + suc k = omega arith in
    ap line f ∙ at (suc k) (omega arith))

pub lines_are : {A : Type 0} (d : A) (g : A → List ℕ) (line : ℕ → List ℕ) (xs : List A) → ((k : ℕ) → k < length xs → line k ≡ g (get_or xs k d)) → lines_text line (length xs) ≡ flat_map g xs
unfolding lines_text
lines_are d g line xs at = places d g line xs 0 λ k h. let e : 0 + k ≡ k = omega arith in ap line e ∙ at k h

-- ---- one line
-- three numbers, read one by one
pub numbers_at_lem : (l : List ℕ) (k : ℕ) → field (get_or l (3 * k) 0) 32 ++ (field (get_or l (3 * k + 1) 0) 32 ++ field (get_or l (3 * k + 2) 0) 10) ≡ numbers_at l k
unfolding numbers_at
numbers_at_lem l k =
    let e : 3 * k + 0 ≡ 3 * k = omega arith in
    rw (get_d_part 3 l k 0 (omega arith), get_d_part 3 l k 1 (omega arith), get_d_part 3 l k 2 (omega arith), e)

-- a formula, read from the lent parts of slot k
pub formula-at : (lengths ops operands : List ℕ) (k : ℕ)
    → formula_line (tokens (get_or lengths k 0) (take (6 * k + 6 - 6 * k) (drop (6 * k) ops)) (take (6 * k + 6 - 6 * k) (drop (6 * k) operands))) ≡ formula_at lengths ops operands k
unfolding formula_at part_at
formula-at lengths ops operands k = let e : 6 * k + 6 - 6 * k ≡ 6 = omega arith in rw e

-- a token that has a sign is its sign, and one that has none is no gate's
pub sign_text : (t : Token) → (sign_of t ≡ 0 → ⊥) → sign_of t ∷ [] ≡ token_text t
unfolding sign_of token_text
sign_text (Constant k) h = absurd (h refl)
sign_text (Variable i) h = absurd (h refl)
sign_text (Binary Add) h = refl
sign_text (Binary Mul) h = refl
sign_text (Binary And) h = refl
sign_text (Binary Or) h = refl
sign_text (Binary Xor) h = refl
sign_text Not h = refl
sign_text Neg h = refl
sign_text Bad h = absurd (h refl)

gate_sign : (g : Gate) → sign_of (Binary g) ≡ 0 → ⊥
unfolding sign_of
gate_sign Add e = omega (arith, e)
gate_sign Mul e = omega (arith, e)
gate_sign And e = omega (arith, e)
gate_sign Or e = omega (arith, e)
gate_sign Xor e = omega (arith, e)

pub gate_signed : {t : Token} {g : Gate} → t ≡ Binary g → sign_of t ≡ 0 → ⊥
gate_signed {t} {g} e f = gate_sign g (ap sign_of (sym e) ∙ f)

pub not_signed : {t : Token} → t ≡ Not → sign_of t ≡ 0 → ⊥
unfolding sign_of
not_signed e f = omega (arith, ap sign_of (sym e) ∙ f)

pub neg_signed : {t : Token} → t ≡ Neg → sign_of t ≡ 0 → ⊥
unfolding sign_of
neg_signed e f = omega (arith, ap sign_of (sym e) ∙ f)

-- a token that isn't the first
pub next-later : (i : ℕ) (t : Token) → (i ≡ 0 → ⊥) → 32 ∷ token_text t ≡ next_text i t
unfolding next_text
next-later zero t h = absurd (h refl)
next-later (suc i) t h = refl

-- ---- tokens
-- a token more, with a blank before it if it isn't the first
pub tokens-more : (ts : List Token) (t : Token) → tokens_text ts ++ next_text (length ts) t ≡ tokens_text (ts ++ (t ∷ []))
unfolding tokens_text next_text
tokens-more [] t = refl
tokens-more (x ∷ []) t = refl
tokens-more (x ∷ (y ∷ ts)) t =
    append_assoc (token_text x) (32 ∷ tokens_text (y ∷ ts)) (next_text (length (x ∷ (y ∷ ts))) t)
    ∙ ap (λ (l : List ℕ). token_text x ++ (32 ∷ l)) (tokens-more (y ∷ ts) t)

pub token_more : (ops operands : List ℕ) (i : ℕ) (t : Token) → t ≡ token_at ops operands i → tokens_text (tokens i ops operands) ++ next_text i t ≡ tokens_text (tokens (i + 1) ops operands)
unfolding tokens
token_more ops operands i t e =
    ap (λ (k : ℕ). tokens_text (tokens i ops operands) ++ next_text k t) (sym (tokens-length ops operands i))
    ∙ tokens-more (tokens i ops operands) t
    ∙ ap (λ (u : Token). tokens_text (tokens i ops operands ++ (u ∷ []))) e
    ∙ ap (λ (k : ℕ). tokens_text (tokens k ops operands)) (sym (add-one i))

-- ---- bank and index
module _ (bank : List Atom) (old : Arrays) where
  -- the lines printed from the arrays that hold a bank are its atoms' cost lines, and their formulas
  cost-lines : lines_text (numbers_at (written bank old).costs) (length bank) ≡ flat_map (λ (a : Atom). cost_line a.cost) bank
  unfolding numbers_at cost_line
  cost-lines =
      lines_are no_atom (λ (a : Atom). cost_line a.cost) (numbers_at (written bank old).costs) bank λ k h. ap numbers_line (cost-at bank old k h)

  formula-lines : ((k : ℕ) → k < length bank → get_or (written bank old).lengths k 0 ≤ 6)
      → lines_text (formula_at (written bank old).lengths (written bank old).ops (written bank old).operands) (length bank) ≡ flat_map (λ (a : Atom). formula_line a.form) bank
  unfolding formula_at
  formula-lines short = lines_are no_atom (λ (a : Atom). formula_line a.form) (formula_at (written bank old).lengths (written bank old).ops (written bank old).operands) bank at
    where
      at : (k : ℕ) → k < length bank → formula_at (written bank old).lengths (written bank old).ops (written bank old).operands k ≡ formula_line (get_or bank k no_atom).form
      at k h =
          ap (λ (count : ℕ). formula_line (tokens count (part_at 6 (written bank old).ops k) (part_at 6 (written bank old).operands k))) (length_at bank old k h)
          ∙ ap₂ (λ (ops operands : List ℕ). formula_line (tokens (length (get_or bank k no_atom).form) ops operands)) (ops-at bank old k h) (operands-at bank old k h)
          ∙ ap formula_line (form-back (get_or bank k no_atom) (omega (arith, short k h, length_at bank old k h)))

-- and those from the array of an index its pairs'
pair-lines : (pairs : List Pair) (old : List ℕ) → lines_text (numbers_at (spread 3 pair_part pairs old)) (length pairs) ≡ flat_map pair_line pairs
unfolding numbers_at pair_line
pair-lines pairs old =
    lines_are no_pair pair_line (numbers_at (spread 3 pair_part pairs old)) pairs λ k h. ap numbers_line (encode_part 3 pair_part (λ p. refl) pairs (drop (3 * length pairs) old) no_pair k h)
  where
    no_pair : Pair
    no_pair = record { gate = And; b = 0; c = 0; row = [] }

-- what is printed from the arrays' slots is the listing of whatever bank and index they hold
pub listing-is : (lengths ops operands costs : List ℕ) (n : ℕ) (pairs : List ℕ) (m : ℕ) (cut : Bool) (bank : List Atom) (index : Index)
    → ((k : ℕ) → k < n → get_or lengths k 0 ≤ 6)
    → Holding lengths ops operands costs n pairs m cut bank index
    → head_line n m cut ++ ((lines_text (numbers_at costs) n ++ lines_text (formula_at lengths ops operands) n) ++ lines_text (numbers_at pairs) m) ≡ listing_of bank index
unfolding listing_of
listing-is lengths ops operands costs n pairs m cut bank index short h =
    ap₂ (λ (x y : List ℕ). x ++ y) head (append_assoc (lines_text (numbers_at costs) n) (lines_text (formula_at lengths ops operands) n) (lines_text (numbers_at pairs) m) ∙ ap₂ (λ (x y : List ℕ). x ++ y) first (ap₂ (λ (x y : List ℕ). x ++ y) second third))
  where
    head : head_line n m cut ≡ head_line (length bank) (length index.pairs) index.cut
    head = rw (h.count, h.pair-count, h.mark)

    first : lines_text (numbers_at costs) n ≡ flat_map (λ (a : Atom). cost_line a.cost) bank
    first = ap₂ (λ (x : Arrays) (k : ℕ). lines_text (numbers_at x.costs) k) (sym h.arrays) h.count ∙ cost-lines bank h.old

    few : (k : ℕ) → k < length bank → get_or (written bank h.old).lengths k 0 ≤ 6
    few k below = omega (arith, short k (omega (arith, h.count)), ap (λ (x : Arrays). get_or x.lengths k 0) h.arrays)

    second : lines_text (formula_at lengths ops operands) n ≡ flat_map (λ (a : Atom). formula_line a.form) bank
    second =
        ap₂ (λ (x : Arrays) (k : ℕ). lines_text (formula_at x.lengths x.ops x.operands) k) (sym h.arrays) h.count
        ∙ formula-lines bank h.old few

    third : lines_text (numbers_at pairs) m ≡ flat_map pair_line index.pairs
    third = ap₂ (λ (l : List ℕ) (k : ℕ). lines_text (numbers_at l) k) h.pairs-are h.pair-count ∙ pair-lines index.pairs h.old_pairs
