-- Laws of the five arrays: a part always has its stride's length, so that a bank with one atom replaced, or with one more, is the same arrays with one part put;
-- and what was written is read back. Assumes nothing.
use mathlib.Core.Path.{◌≡◌, refl, sym, ap, ap₂, ◌∙◌}
use mathlib.Core.List.{List, [], ◌∷◌, ◌++◌, map}
use Prim.Native.Nat.{ℕ, zero, suc, ◌+◌, ◌*◌, ◌≤◌, ◌<◌}
use native.Mathlib.Omega.{arith}
use lib.ListN.{length, get_or, set, take, drop, length-append, length-map, length-set}
use lib.Seq.{take-suc, take-length}
use Rattle.arrays.specs.Parts.{part_at, put_part, encode, spread}
use Rattle.arrays.proofs.Parts.{get_d_part, encode_part, encode-set, encode-add}
use Rattle.arrays.proofs.Lists.{get_d_map}
use Rattle.expr.specs.declared.Token.{Token}
use Rattle.expr.specs.declared.Token.TheVariants.{Bad}
use Rattle.expr.specs.Formula.{token_of, opcode_of, operand_of, token_at, tokens}
use Rattle.expr.proofs.Tokens.{token_in, token_back}
use Rattle.bank_spec.specs.Push.{Atom, no_atom}
use Rattle.bank_spec.specs.Encoding.{pad_to, length_part, ops_part, operands_part, cost_numbers, cost_part, row_part, Arrays, written}

-- ---- padding
-- a padded list has the length asked for, whatever the list
pub length_pad : (s d : ℕ) (l : List ℕ) → length (pad_to s d l) ≡ s
unfolding pad_to
length_pad zero d l = refl
length_pad (suc s) d [] = ap suc (length_pad s d [])
length_pad (suc s) d (x ∷ l) = ap suc (length_pad s d l)

-- a list of exactly that length is its own padding
pub pad_full : (s d : ℕ) (l : List ℕ) → length l ≡ s → pad_to s d l ≡ l
unfolding pad_to
pad_full zero d [] h = refl
pad_full zero d (x ∷ l) h = absurd (omega arith)
pad_full (suc s) d [] h = absurd (omega arith)
pad_full (suc s) d (x ∷ l) h = ap (λ (m : List ℕ). x ∷ m) (pad_full s d l (omega arith))

-- one more goes in the first free place
pub pad_more : (s d : ℕ) (l : List ℕ) (x : ℕ) → length l < s → pad_to s d (l ++ (x ∷ [])) ≡ set (pad_to s d l) (length l) x
unfolding pad_to
pad_more zero d l x h = absurd (omega arith)
pad_more (suc s) d [] x h = refl
pad_more (suc s) d (y ∷ l) x h = ap (λ (m : List ℕ). y ∷ m) (pad_more s d l x (omega arith))

-- places of the list keep their element
pub get_or_pad : (s d : ℕ) (l : List ℕ) (k e : ℕ) → k < s → k < length l → get_or (pad_to s d l) k e ≡ get_or l k e
unfolding pad_to
get_or_pad s d [] k e h m = absurd (omega arith)
get_or_pad zero d (x ∷ l) k e h m = absurd (omega arith)
get_or_pad (suc s) d (x ∷ l) zero e h m = refl
get_or_pad (suc s) d (x ∷ l) (suc k) e h m = get_or_pad s d l k e (omega arith) (omega arith)

-- the word at any place of a row padded with zeros
pub get_or_padded : (s : ℕ) (l : List ℕ) (j : ℕ) → j < s → get_or (pad_to s 0 l) j 0 ≡ get_or l j 0
unfolding pad_to
get_or_padded zero l j h = absurd (omega arith)
get_or_padded (suc s) [] zero h = refl
get_or_padded (suc s) [] (suc j) h = get_or_padded s [] j (omega arith)
get_or_padded (suc s) (x ∷ l) zero h = refl
get_or_padded (suc s) (x ∷ l) (suc j) h = get_or_padded s l j (omega arith)

-- places past the list hold what it is padded with
pub get_or_pad_past : (s d : ℕ) (l : List ℕ) (k e : ℕ) → k < s → length l ≤ k → get_or (pad_to s d l) k e ≡ d
unfolding pad_to
get_or_pad_past zero d l k e h m = absurd (omega arith)
get_or_pad_past (suc s) d [] zero e h m = refl
get_or_pad_past (suc s) d [] (suc k) e h m = get_or_pad_past s d [] k e (omega arith) (omega arith)
get_or_pad_past (suc s) d (x ∷ l) zero e h m = absurd (omega arith)
get_or_pad_past (suc s) d (x ∷ l) (suc k) e h m = get_or_pad_past s d l k e (omega arith) (omega arith)

-- ---- the width of each part
-- one length for each atom, whatever the atom
pub length-wide : (a : Atom) → length (length_part a) ≡ 1
length-wide a = refl

-- 6 opcodes
pub ops-wide : (a : Atom) → length (ops_part a) ≡ 6
unfolding ops_part
ops-wide a = length_pad 6 255 (map opcode_of a.form)

-- 6 operands
pub operands-wide : (a : Atom) → length (operands_part a) ≡ 6
unfolding operands_part
operands-wide a = length_pad 6 0 (map operand_of a.form)

-- 3 cost numbers
pub cost-wide : (a : Atom) → length (cost_part a) ≡ 3
cost-wide a = refl

-- 16 row words
pub row-wide : (a : Atom) → length (row_part a) ≡ 16
unfolding row_part
row-wide a = length_pad 16 0 a.row

-- a row of sixteen words is its part
pub row-full : (a : Atom) → length a.row ≡ 16 → row_part a ≡ a.row
unfolding row_part
row-full a h = pad_full 16 0 a.row h

-- ---- one array: slot k replaced, one atom more, one part read back
module _ (s : ℕ) (part : Atom → List ℕ) (wide : (a : Atom) → length (part a) ≡ s) (bank : List Atom) (old : List ℕ) where
  -- an atom replaced: its part put in its slot
  pub spread-set : (k : ℕ) (a : Atom) → k < length bank → spread s part (set bank k a) old ≡ put_part s (spread s part bank old) k (part a)
  spread-set k a h = rw (length-set bank k a) (sym (encode-set s part wide bank (drop (s * length bank) old) k a h))

  -- one atom more: its part put at the end
  pub spread-add : (a : Atom) → spread s part (bank ++ (a ∷ [])) old ≡ put_part s (spread s part bank old) (length bank) (part a)
  spread-add a = rw (length-append bank (a ∷ [])) (sym (encode-add s part wide bank old (length bank) a refl))

  -- part k is atom k's
  pub spread_part : (k : ℕ) → k < length bank → part_at s (spread s part bank old) k ≡ part (get_or bank k no_atom)
  spread_part k h = encode_part s part wide bank (drop (s * length bank) old) no_atom k h

-- a bank of no atoms leaves the array as it was
pub spread_none : (s : ℕ) (part : Atom → List ℕ) (old : List ℕ) → spread s part [] old ≡ old
unfolding encode
spread_none s part old = let e : s * 0 ≡ 0 = omega arith in rw e

-- ---- the five arrays
-- an atom put in slot k of the arrays
abbrev pub put_atom : Arrays → ℕ → Atom → Arrays
put_atom arrays k a = record {
  lengths = put_part 1 arrays.lengths k (length_part a);
  ops = put_part 6 arrays.ops k (ops_part a);
  operands = put_part 6 arrays.operands k (operands_part a);
  costs = put_part 3 arrays.costs k (cost_part a);
  rows = put_part 16 arrays.rows k (row_part a);
}

arrays-are : (x y : Arrays) → x.lengths ≡ y.lengths → x.ops ≡ y.ops → x.operands ≡ y.operands → x.costs ≡ y.costs → x.rows ≡ y.rows → x ≡ y
arrays-are x y p q r s t = λ i. record { lengths = p i; ops = q i; operands = r i; costs = s i; rows = t i }

-- a bank of no atoms leaves the arrays as they were
pub written_none : (old : Arrays) → written [] old ≡ old
written_none old =
    arrays-are (written [] old) old
    (spread_none 1 length_part old.lengths)
    (spread_none 6 ops_part old.ops)
    (spread_none 6 operands_part old.operands)
    (spread_none 3 cost_part old.costs)
    (spread_none 16 row_part old.rows)

module _ (bank : List Atom) (old : Arrays) (a : Atom) where
  -- one atom replaced
  pub written-set : (k : ℕ) → k < length bank → written (set bank k a) old ≡ put_atom (written bank old) k a
  written-set k h =
      arrays-are (written (set bank k a) old) (put_atom (written bank old) k a)
      (spread-set 1 length_part length-wide bank old.lengths k a h)
      (spread-set 6 ops_part ops-wide bank old.ops k a h)
      (spread-set 6 operands_part operands-wide bank old.operands k a h)
      (spread-set 3 cost_part cost-wide bank old.costs k a h)
      (spread-set 16 row_part row-wide bank old.rows k a h)

  -- one atom more
  pub written-add : written (bank ++ (a ∷ [])) old ≡ put_atom (written bank old) (length bank) a
  written-add =
      arrays-are (written (bank ++ (a ∷ [])) old) (put_atom (written bank old) (length bank) a)
      (spread-add 1 length_part length-wide bank old.lengths a)
      (spread-add 6 ops_part ops-wide bank old.ops a)
      (spread-add 6 operands_part operands-wide bank old.operands a)
      (spread-add 3 cost_part cost-wide bank old.costs a)
      (spread-add 16 row_part row-wide bank old.rows a)

-- ---- reading back
pad_map : (d : ℕ) (f : Token → ℕ) (ts : List Token) (k : ℕ) → length ts ≤ 6 → k < length ts → get_or (pad_to 6 d (map f ts)) k 0 ≡ f (get_or ts k Bad)
pad_map d f ts k h m =
    let e : length (map f ts) ≡ length ts = length-map ts f in
    get_or_pad 6 d (map f ts) k 0 (omega arith) (omega arith) ∙ get_d_map f ts k Bad 0 m

-- tokens that are read one by one
tokens-are : (ops operands : List ℕ) (ts : List Token) → ((k : ℕ) → k < length ts → token_at ops operands k ≡ get_or ts k Bad) → (n : ℕ) → n ≤ length ts → tokens n ops operands ≡ take n ts
unfolding tokens
tokens-are ops operands ts at zero h = refl
tokens-are ops operands ts at (suc n) h =
    ap₂ (λ (l : List Token) (t : Token). l ++ (t ∷ [])) (tokens-are ops operands ts at n (omega arith)) (at n (omega arith)) ∙ sym (take-suc ts n Bad (omega arith))

-- a formula of at most six tokens is read back from its parts
pub form-back : (a : Atom) → length a.form ≤ 6 → tokens (length a.form) (ops_part a) (operands_part a) ≡ a.form
unfolding ops_part operands_part
form-back a h = tokens-are (ops_part a) (operands_part a) a.form at (length a.form) (omega arith) ∙ take-length a.form
  where
    at : (k : ℕ) → k < length a.form → token_at (ops_part a) (operands_part a) k ≡ get_or a.form k Bad
    at k m =
        token_in (ops_part a) (operands_part a) k (omega (arith, ops-wide a)) (omega (arith, operands-wide a))
        ∙ ap₂ token_of (pad_map 255 opcode_of a.form k h m) (pad_map 0 operand_of a.form k h m)
        ∙ token_back (get_or a.form k Bad)

-- ---- slot k of the arrays is atom k of the bank
module _ (bank : List Atom) (old : Arrays) (k : ℕ) (h : k < length bank) where
  -- its token count
  pub length_at : get_or (written bank old).lengths k 0 ≡ length (get_or bank k no_atom).form
  length_at =
      let e : 1 * k + 0 ≡ k = omega arith in
      ap (λ (m : ℕ). get_or (written bank old).lengths m 0) (sym e)
      ∙ sym (get_d_part 1 (written bank old).lengths k 0 (omega arith))
      ∙ ap (λ (l : List ℕ). get_or l 0 0) (spread_part 1 length_part length-wide bank old.lengths k h)

  -- its opcodes
  pub ops-at : part_at 6 (written bank old).ops k ≡ ops_part (get_or bank k no_atom)
  ops-at = spread_part 6 ops_part ops-wide bank old.ops k h

  -- its operands
  pub operands-at : part_at 6 (written bank old).operands k ≡ operands_part (get_or bank k no_atom)
  operands-at = spread_part 6 operands_part operands-wide bank old.operands k h

  -- its cost's numbers
  pub cost-at : part_at 3 (written bank old).costs k ≡ cost_numbers (get_or bank k no_atom).cost
  cost-at = spread_part 3 cost_part cost-wide bank old.costs k h

  -- its row, if that has sixteen words
  pub row_at : length (get_or bank k no_atom).row ≡ 16 → part_at 16 (written bank old).rows k ≡ (get_or bank k no_atom).row
  row_at wide = spread_part 16 row_part row-wide bank old.rows k h ∙ row-full (get_or bank k no_atom) wide
