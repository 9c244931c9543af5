-- Laws of a formula in six places: one token more, and two formulas one after the other. Assumes nothing.
use mathlib.Core.Path.{◌≡◌, sym, ap, ◌∙◌}
use mathlib.Core.List.{List, [], ◌∷◌, ◌++◌, map, append-nil, append_assoc, map-append}
use Prim.Native.Nat.{ℕ, ◌+◌, ◌≤◌, ◌<◌}
use native.Mathlib.Numerals.{add-one}
use native.Mathlib.Omega.{arith}
use lib.ListN.{length, get_or, take, set, length-append, length-map}
use lib.Seq.{take-suc, take_all, length-take-le}
use Rattle.expr.specs.declared.Token.{Token}
use Rattle.expr.specs.Formula.{opcode_of, operand_of}
use Rattle.bank_spec.specs.Encoding.{pad_to}
use Rattle.bank_spec.proofs.Encodings.{pad_more, get_or_pad}
use Rattle.bank_atom.specs.declared.Formula.{Formula}
use Rattle.bank_atom.specs.Entry.{text_of, Longer, Joined}

-- ---- one token more
-- one part of a formula: the first free place is written
part_more : (d : ℕ) (f : Token → ℕ) (ts : List Token) (t : Token) (l : List ℕ) (n v : ℕ)
    → l ≡ pad_to 6 d (map f ts) → n ≡ length ts → v ≡ f t → length ts < 6 → set l n v ≡ pad_to 6 d (map f (ts ++ (t ∷ [])))
part_more d f ts t l n v el en ev h =
    (λ i. set (el i) ((en ∙ sym (length-map ts f)) i) (ev i))
    ∙ sym (pad_more 6 d (map f ts) (f t) (omega (arith, length-map ts f)))
    ∙ ap (pad_to 6 d) (sym (map-append f ts (t ∷ [])))

-- the text that `with_token` writes
pub longer : (f r : Formula) (opcode : ℕ) → f.len < 6 → r.len ≡ f.len + 1 → r.ops ≡ set f.ops f.len opcode
    → r.operands ≡ set f.operands f.len 0 → Longer f opcode r
longer f r opcode h el eo ep = record {
  is = λ ts t e eq ez.
      let n : f.len ≡ length ts = ap (λ (x : Formula). x.len) e in
      let p : r.len ≡ length (ts ++ (t ∷ [])) = el ∙ ap (λ (k : ℕ). k + 1) n ∙ sym (length-append ts (t ∷ [])) in
      let q : r.ops ≡ (text_of (ts ++ (t ∷ []))).ops = eo ∙ part_more 255 opcode_of ts t f.ops f.len opcode (ap (λ (x : Formula). x.ops) e) n eq (omega arith) in
      let o : r.operands ≡ (text_of (ts ++ (t ∷ []))).operands = ep ∙ part_more 0 operand_of ts t f.operands f.len 0 (ap (λ (x : Formula). x.operands) e) n (sym ez) (omega arith) in
      λ i. record { len = p i; ops = q i; operands = o i };
}

-- ---- the elements of one part after those of another: the first k of them are there
abbrev pub Copied : (d la lb : ℕ) (p q out : List ℕ) (k : ℕ) → Type 0
Copied d la lb p q out k =
    (xs ys : List ℕ) → p ≡ pad_to 6 d xs → length xs ≡ la → q ≡ pad_to 6 d ys → length ys ≡ lb → out ≡ pad_to 6 d (xs ++ take k ys)

-- before the first element
pub copied_none : (d la lb : ℕ) (p q : List ℕ) → Copied d la lb p q p 0
copied_none d la lb p q xs ys ea la' eb lb' = ea ∙ ap (pad_to 6 d) (sym (append-nil xs))

-- one element more
pub copied_more : (d la lb : ℕ) (p q out : List ℕ) (k : ℕ) → la + lb ≤ 6 → k < lb → Copied d la lb p q out k
    → Copied d la lb p q (set out (la + k) (get_or q k 0)) (k + 1)
copied_more d la lb p q out k h l c xs ys ea na eb nb =
    (λ i. set (c xs ys ea na eb nb i) (place i) (value i))
    ∙ sym (pad_more 6 d (xs ++ take k ys) (get_or ys k 0) (omega (arith, place)))
    ∙ ap (pad_to 6 d) (append_assoc xs (take k ys) (get_or ys k 0 ∷ []) ∙ ap (λ (z : List ℕ). xs ++ z) (sym (take-suc ys k 0 (omega arith)) ∙ ap (λ (m : ℕ). take m ys) (sym (add-one k))))
  where
    place : la + k ≡ length (xs ++ take k ys)
    place = omega (arith, length-append xs (take k ys), length-take-le k ys (omega arith))

    value : get_or q k 0 ≡ get_or ys k 0
    value = ap (λ (z : List ℕ). get_or z k 0) eb ∙ get_or_pad 6 d ys k 0 (omega arith) (omega arith)

-- all are there: the part of both formulas
copied_all : (d : ℕ) (f : Token → ℕ) (ts us : List Token) (p q out : List ℕ) (la lb k : ℕ) → lb ≤ k → la ≡ length ts → lb ≡ length us
    → p ≡ pad_to 6 d (map f ts) → q ≡ pad_to 6 d (map f us) → Copied d la lb p q out k → out ≡ pad_to 6 d (map f (ts ++ us))
copied_all d f ts us p q out la lb k h na nb ea eb c =
    c (map f ts) (map f us) ea (length-map ts f ∙ sym na) eb (length-map us f ∙ sym nb)
    ∙ ap (pad_to 6 d) (ap (λ (z : List ℕ). map f ts ++ z) (take_all k (map f us) (omega (arith, length-map us f))) ∙ sym (map-append f ts us))

-- the text that `joined` writes
pub joined : (a b r : Formula) (k : ℕ) → b.len ≤ k → r.len ≡ a.len + b.len
    → Copied 255 a.len b.len a.ops b.ops r.ops k → Copied 0 a.len b.len a.operands b.operands r.operands k → Joined a b r
joined a b r k h el eo ep = record {
  len = el;
  is = λ ts us ea eb.
      let na : a.len ≡ length ts = ap (λ (x : Formula). x.len) ea in
      let nb : b.len ≡ length us = ap (λ (x : Formula). x.len) eb in
      let p : r.len ≡ length (ts ++ us) = el ∙ (λ i. na i + nb i) ∙ sym (length-append ts us) in
      let q : r.ops ≡ (text_of (ts ++ us)).ops = copied_all 255 opcode_of ts us a.ops b.ops r.ops a.len b.len k h na nb (ap (λ (x : Formula). x.ops) ea) (ap (λ (x : Formula). x.ops) eb) eo in
      let o : r.operands ≡ (text_of (ts ++ us)).operands = copied_all 0 operand_of ts us a.operands b.operands r.operands a.len b.len k h na nb (ap (λ (x : Formula). x.operands) ea) (ap (λ (x : Formula). x.operands) eb) ep in
      λ i. record { len = p i; ops = q i; operands = o i };
}
