-- Laws of `push`, of a list of pushes and of turns, for any bank. A push replaces the first slot that has the atom's row, or leaves the bank, or adds a slot:
-- `push_cases` says so once, and every induction over banks goes through it. Assumes nothing.
use mathlib.Core.Path.{◌≡◌, refl, sym, ap, ◌∙◌, subst}
use mathlib.Core.Bool.{Bool, true, false}
use mathlib.Core.Logic.{◌⊎◌, inl, inr}
use mathlib.Core.List.{List, [], ◌∷◌, ◌++◌}
use Prim.Native.Nat.{ℕ, zero, suc, ◌+◌, ◌≤◌, ◌<◌}
use native.Mathlib.Numerals.{add-one}
use native.Mathlib.Omega.{arith}
use lib.ListN.{length, get_or, set, length-append, length-set}
use Rattle.row_gates.specs.Gates.{same_row}
use Rattle.row_gates.proofs.Rows.{same-row_eq, same-row_of, same-row-not}
use Rattle.expr.specs.declared.Token.{Token}
use Rattle.expr_cost.specs.Cost.{is_better}
use Rattle.probe_points.specs.declared.Point.{Point}
use Rattle.bank_spec.specs.Push.{Atom, no_atom, atom_of, push, push_all, turn, turns}

-- ---- where a row stands in a bank
-- slot k is the first whose atom has the row
pub record First (bank : List Atom) (row : List ℕ) (k : ℕ) : Type 0 where
  pub below : k < length bank
  pub same : (get_or bank k no_atom).row ≡ row
  pub before : (j : ℕ) → j < k → (get_or bank j no_atom).row ≡ row → ⊥

-- no atom has the row
abbrev pub Absent : List Atom → List ℕ → Type 0
Absent bank row = (j : ℕ) → j < length bank → (get_or bank j no_atom).row ≡ row → ⊥

-- no two atoms share a row
abbrev pub Distinct : List Atom → Type 0
Distinct bank = (i j : ℕ) → i < j → j < length bank → (get_or bank i no_atom).row ≡ (get_or bank j no_atom).row → ⊥

-- where it stands, or that it does not
pub data Place (bank : List Atom) (row : List ℕ) : Type 0 where
  held : (k : ℕ) → First bank row k → Place bank row
  absent : Absent bank row → Place bank row

-- in a bank of distinct rows, a slot that has the row is the first
pub distinct-first : (bank : List Atom) (row : List ℕ) (k : ℕ) → Distinct bank → k < length bank → (get_or bank k no_atom).row ≡ row → First bank row k
distinct-first bank row k d h e = record { below = h; same = e; before = λ j l f. d j k l h (f ∙ sym e) }

first_cons : (b : Atom) (bank : List Atom) (row : List ℕ) (k : ℕ) → (b.row ≡ row → ⊥) → First bank row k → First (b ∷ bank) row (suc k)
first_cons b bank row k n f = record { below = omega (arith, f.below); same = f.same; before = before }
  where
    before : (j : ℕ) → j < suc k → (get_or (b ∷ bank) j no_atom).row ≡ row → ⊥
    before zero l e = n e
    before (suc j) l e = f.before j (omega arith) e

absent_cons : (b : Atom) (bank : List Atom) (row : List ℕ) → (b.row ≡ row → ⊥) → Absent bank row → Absent (b ∷ bank) row
absent_cons b bank row n a zero l e = n e
absent_cons b bank row n a (suc j) l e = a j (omega arith) e

-- a row is held or absent
pub place : (bank : List Atom) (row : List ℕ) → Place bank row
place [] row = absent (λ j l e. omega arith)
place (b ∷ bank) row = go (same_row b.row row) refl (place bank row)
  where
    differ : same_row b.row row ≡ false → b.row ≡ row → ⊥
    differ e same = let q : true ≡ false = sym (same-row_of same) ∙ e in let z : ◌≡◌ {A = ℕ} 0 1 = cc in omega arith

    go : (s : Bool) → same_row b.row row ≡ s → Place bank row → Place (b ∷ bank) row
    go true e p = held 0 (record { below = omega arith; same = same-row_eq b.row row e; before = λ j l f. omega arith })
    go false e (held k f) = held (suc k) (first_cons b bank row k (differ e) f)
    go false e (absent a) = absent (absent_cons b bank row (differ e) a)

-- ---- one push
-- a new row gets the next slot
pub push-new : (bank : List Atom) (a : Atom) → Absent bank a.row → push bank a ≡ bank ++ (a ∷ [])
unfolding push
push-new [] a none = refl
push-new (b ∷ bank) a none =
    rw (same-row-not b.row a.row (none 0 (omega arith)), push) (ap (λ (l : List Atom). b ∷ l) (push-new bank a (λ j l. none (suc j) (omega arith))))

-- what a push makes of a bank whose slot k is the first with the row, by whether the atom is better
abbrev pub replaced : Bool → List Atom → ℕ → Atom → List Atom
replaced true bank k a = set bank k a
replaced false bank k a = bank

replaced_cons : (t : Bool) (b : Atom) (bank : List Atom) (k : ℕ) (a : Atom) → b ∷ replaced t bank k a ≡ replaced t (b ∷ bank) (suc k) a
replaced_cons true b bank k a = refl
replaced_cons false b bank k a = refl

-- a row already held: by whether the atom is better than the first with its row
pub push-held : (bank : List Atom) (a : Atom) (k : ℕ) → First bank a.row k → push bank a ≡ replaced (is_better a.cost (get_or bank k no_atom).cost) bank k a
unfolding push
push-held [] a k f = absurd (omega (arith, f.below))
push-held (b ∷ bank) a zero f = rw (same-row_of f.same, push) (go (is_better a.cost b.cost))
  where
    go : (t : Bool) → elim t as (λ (x : Bool). List Atom) [ true ↦ a ∷ bank | false ↦ b ∷ bank ] ≡ replaced t (b ∷ bank) 0 a
    go true = refl
    go false = refl
push-held (b ∷ bank) a (suc k) f =
    rw (same-row-not b.row a.row (f.before 0 (omega arith)), push)
    (ap (λ (l : List Atom). b ∷ l) (push-held bank a k (record { below = omega (arith, f.below); same = f.same; before = λ j l. f.before (suc j) (omega arith) }))
    ∙ replaced_cons (is_better a.cost (get_or bank k no_atom).cost) b bank k a)

-- it replaces that atom if strictly better
pub push_better : (bank : List Atom) (a : Atom) (k : ℕ) → First bank a.row k → is_better a.cost (get_or bank k no_atom).cost ≡ true → push bank a ≡ set bank k a
push_better bank a k f e = push-held bank a k f ∙ ap (λ (t : Bool). replaced t bank k a) e

-- and leaves the bank otherwise
pub push_worse : (bank : List Atom) (a : Atom) (k : ℕ) → First bank a.row k → is_better a.cost (get_or bank k no_atom).cost ≡ false → push bank a ≡ bank
push_worse bank a k f e = push-held bank a k f ∙ ap (λ (t : Bool). replaced t bank k a) e

-- what holds of the bank in each of the three cases holds of the bank after the push
pub push_cases : (P : List Atom → Type 0) (bank : List Atom) (a : Atom)
    → ((k : ℕ) → First bank a.row k → is_better a.cost (get_or bank k no_atom).cost ≡ true → P (set bank k a))
    → ((k : ℕ) → First bank a.row k → is_better a.cost (get_or bank k no_atom).cost ≡ false → P bank)
    → (Absent bank a.row → P (bank ++ (a ∷ [])))
    → P (push bank a)
push_cases P bank a better worse new = go (place bank a.row)
  where
    arms : (k : ℕ) → First bank a.row k → (t : Bool) → is_better a.cost (get_or bank k no_atom).cost ≡ t → P (push bank a)
    arms k f true e = subst P (sym (push_better bank a k f e)) (better k f e)
    arms k f false e = subst P (sym (push_worse bank a k f e)) (worse k f e)

    go : Place bank a.row → P (push bank a)
    go (held k f) = arms k f (is_better a.cost (get_or bank k no_atom).cost) refl
    go (absent n) = subst P (sym (push-new bank a n)) (new n)

-- a push adds no slot or one
pub push-length : (bank : List Atom) (a : Atom) → (length (push bank a) ≡ length bank) ⊎ (length (push bank a) ≡ length bank + 1)
push-length bank a =
    push_cases (λ (l : List Atom). (length l ≡ length bank) ⊎ (length l ≡ length bank + 1)) bank a
    (λ k f e. inl (length-set bank k a)) (λ k f e. inl refl) (λ n. inr (length-append bank (a ∷ [])))

-- it adds one at most
pub push-one-more : (bank : List Atom) (a : Atom) → length (push bank a) ≤ length bank + 1
push-one-more bank a = elim (push-length bank a) [ inl e ↦ omega arith | inr e ↦ omega arith ]

-- ---- a list of formulas
module _ (w : ℕ) (points : List Point) where
  -- first one list, then the other
  pub push_all-append : (bank : List Atom) (fs gs : List (List Token)) → push_all w points bank (fs ++ gs) ≡ push_all w points (push_all w points bank fs) gs
  unfolding push_all
  push_all-append bank [] gs = refl
  push_all-append bank (f ∷ fs) gs = push_all-append (push bank (atom_of w points f)) fs gs

  -- a list of one formula
  pub push_all-one : (bank : List Atom) (f : List Token) → push_all w points bank (f ∷ []) ≡ push bank (atom_of w points f)
  unfolding push_all
  push_all-one bank f = refl

  -- one formula more at the end
  pub push_all_snoc : (bank : List Atom) (fs : List (List Token)) (f : List Token) → push_all w points bank (fs ++ (f ∷ [])) ≡ push (push_all w points bank fs) (atom_of w points f)
  push_all_snoc bank fs f = push_all-append bank fs (f ∷ []) ∙ push_all-one (push_all w points bank fs) f

  -- ---- turns
  module _ (unaries : List Token) where
    -- no turns
    pub turns-none : (bank : List Atom) (k : ℕ) → turns w points unaries bank k 0 ≡ bank
    unfolding turns
    turns-none bank k = refl

    -- one turn more at the end
    pub turns_more : (bank : List Atom) (k n : ℕ) → turns w points unaries bank k (suc n) ≡ turn w points unaries (turns w points unaries bank k n) (k + n)
    unfolding turns
    turns_more bank k zero = let e : k + 0 ≡ k = omega arith in rw e
    turns_more bank k (suc n) =
        let e : k + suc n ≡ suc k + n = omega arith in
        rw e (turns_more (turn w points unaries bank k) (suc k) n)

    -- the same from slot 0 on, as a loop counts
    pub turns_next : (bank : List Atom) (k : ℕ) → turns w points unaries bank 0 (k + 1) ≡ turn w points unaries (turns w points unaries bank 0 k) k
    turns_next bank k = let e : 0 + k ≡ k = omega arith in rw (add-one k, turns_more bank 0 k, e)

  -- a turn of two tokens is two pushes, both of the formula as it is when the turn comes
  pub turn_two : (u v : Token) (bank : List Atom) (k : ℕ)
      → turn w points (u ∷ (v ∷ [])) bank k
      ≡ push (push bank (atom_of w points ((get_or bank k no_atom).form ++ (u ∷ [])))) (atom_of w points ((get_or bank k no_atom).form ++ (v ∷ [])))
  unfolding turn push_all
  turn_two u v bank k = refl
