-- Laws of a push into the arrays: what the map finds is what `push` finds in the list, and what is stored is the part of the list that `push` changes. Assumes nothing.
use mathlib.Core.Path.{◌≡◌, refl, sym, ap, ◌∙◌}
use mathlib.Core.Bool.{Bool, true, false, cond}
use mathlib.Core.List.{List, [], ◌∷◌, ◌++◌}
use Prim.Native.Nat.{ℕ, ◌+◌, ◌*◌, ◌≤◌, ◌<◌}
use native.Mathlib.Decide.{ℕ_discrete}
use native.Mathlib.Omega.{arith}
use borrow.Author.Count.{below_more}
use lib.ListN.{length, get_or, set, length-append, length-set, get_or-append}
use lib.Seq.{get_or_at, get_or-set_same, get_or-set_other}
use Rattle.arrays.specs.Parts.{part_at, put_part}
use Rattle.arrays.proofs.Parts.{encode_same}
use Rattle.expr_cost.specs.Cost.{is_better}
use Rattle.row_map.specs.Map.{cleared, Hit, Miss}
use Rattle.row_map.proofs.MapLaws.{held-empty}
use Rattle.bank_spec.specs.Push.{Atom, no_atom, push}
use Rattle.bank_spec.specs.Encoding.{pad_to, row_part, Arrays, written}
use Rattle.bank_spec.proofs.Pushes.{First, Absent, distinct-first, push-new, replaced, push-held, push_better, push_worse, push_cases}
use Rattle.bank_spec.proofs.Encodings.{row-full, written_none, written-set, written-add, row_at}
use Rattle.bank_spec.proofs.Soundness.{push-distinct}
use Rattle.bank_atom.specs.declared.Entry.{Entry}
use Rattle.bank_atom.specs.Entry.{entry_of}
use Rattle.bank_parts.specs.Parts.{arrays, Texts, texts_of, put_text, TextRoom, put_better}
use Rattle.bank_parts.proofs.Storing.{cost-held}
use Rattle.bank_push.specs.Steps.{put_entry, Ready, IsBank, Appended, Pushed, Started}

-- ---- the arrays by their fields
abbrev with_rows : Texts → List ℕ → Arrays
with_rows t rows = arrays t.lengths t.ops t.operands t.costs rows

-- equal texts beside equal rows
pub rows_with : {t t' : Texts} {rows rows' : List ℕ} → t ≡ t' → rows ≡ rows' → with_rows t rows ≡ with_rows t' rows'
rows_with et er = λ i. with_rows (et i) (er i)

-- ---- rows of sixteen words stay so
abbrev Wide : List Atom → Type 0
Wide bank = (k : ℕ) → k < length bank → length (get_or bank k no_atom).row ≡ 16

wide-set : (bank : List Atom) (k : ℕ) (a : Atom) → k < length bank → length a.row ≡ 16 → Wide bank → Wide (set bank k a)
wide-set bank k a h long wide j l = elim (ℕ_discrete j k) [
  | yes e ↦ ap (λ (i : ℕ). length (get_or (set bank k a) i no_atom).row) e ∙ ap (λ (x : Atom). length x.row) (get_or-set_same bank k a no_atom h) ∙ long
  | no other ↦ ap (λ (x : Atom). length x.row) (get_or-set_other bank k j a no_atom other) ∙ wide j (rw (length-set bank k a) at l)
]

wide-add : (bank : List Atom) (a : Atom) → length a.row ≡ 16 → Wide bank → Wide (bank ++ (a ∷ []))
wide-add bank a long wide j l =
    below_more (λ (i : ℕ). length (get_or (bank ++ (a ∷ [])) i no_atom).row ≡ 16) (length bank)
    (λ i m. ap (λ (x : Atom). length x.row) (get_or-append bank (a ∷ []) no_atom i m) ∙ wide i m)
    (ap (λ (x : Atom). length x.row) (get_or_at bank a [] no_atom (length bank) refl) ∙ long)
    j
    (rw (length-append bank (a ∷ [])) at l)

pub push-wide : (bank : List Atom) (a : Atom) → length a.row ≡ 16 → Wide bank → Wide (push bank a)
push-wide bank a long wide =
    push_cases Wide bank a (λ k f e. wide-set bank k a f.below long wide) (λ k f e. wide) (λ n. wide-add bank a long wide)

-- ---- reading back
-- the row at a slot, by the arrays
pub row-held : {old now : Arrays} {n : ℕ} {bank : List Atom} → IsBank old now n bank → (k : ℕ) → k < length bank → part_at 16 now.rows k ≡ (get_or bank k no_atom).row
row-held {old} {now} {n} {bank} is k h = ap (λ (z : Arrays). part_at 16 z.rows k) is.arrays ∙ row_at bank old k h (is.wide k h)

-- ---- a row that is held, first at slot k
module _ (bank : List Atom) (old : Arrays) (x : Atom) (k : ℕ) (f : First bank x.row k) where
  -- formulas and costs: replaced exactly as `push` replaces the atom
  held-texts : put_better (texts_of (written bank old)) k (entry_of x).text x.cost ≡ texts_of (written (push bank x) old)
  held-texts =
      ap (λ (b : Bool). cond b put kept) (ap (is_better x.cost) (cost-held bank old k f.below))
      ∙ go (is_better x.cost (get_or bank k no_atom).cost) refl
    where
      kept : Texts
      kept = texts_of (written bank old)

      put : Texts
      put = put_text kept k (entry_of x).text x.cost

      go : (b : Bool) → is_better x.cost (get_or bank k no_atom).cost ≡ b → cond b put kept ≡ texts_of (written (push bank x) old)
      go true e = sym (ap texts_of (written-set bank old x k f.below)) ∙ ap (λ (z : List Atom). texts_of (written z old)) (sym (push_better bank x k f e))
      go false e = ap (λ (z : List Atom). texts_of (written z old)) (sym (push_worse bank x k f e))

  -- rows and count stay
  held_rows : (written (push bank x) old).rows ≡ (written bank old).rows
  unfolding row_part
  held_rows = ap (λ (z : List Atom). (written z old).rows) (push-held bank x k f) ∙ go (is_better x.cost (get_or bank k no_atom).cost)
    where
      go : (b : Bool) → (written (replaced b bank k x) old).rows ≡ (written bank old).rows
      go true = rw (length-set bank k x, encode_same row_part bank k x no_atom f.below (ap (pad_to 16 0) (sym f.same)))
      go false = refl

  held-length : length (push bank x) ≡ length bank
  held-length = ap length (push-held bank x k f) ∙ go (is_better x.cost (get_or bank k no_atom).cost)
    where
      go : (b : Bool) → length (replaced b bank k x) ≡ length bank
      go true = length-set bank k x
      go false = refl

-- the arm of `push` where the map finds the row
pub pushed_held : (a a' : Arrays) (work : List ℕ) (n : ℕ) (e : Entry) (k : ℕ) → Ready a work n → TextRoom (texts_of a') → Hit a.rows n e.row k
    → texts_of a' ≡ put_better (texts_of a) k e.text e.cost → a'.rows ≡ a.rows → Pushed a a' work n e n
pushed_held a a' work n e k ready room hit et er = record {
  ready = record { room = record { texts = room; rows = rw er ready.room.rows }; area = ready.area; held = rw er ready.held };
  few = (omega arith, omega arith);
  bank = bank';
}
  where
    bank' : (old : Arrays) (bank : List Atom) (x : Atom) → e ≡ entry_of x → IsBank old a n bank → IsBank old a' n (push bank x)
    bank' old bank x ex is =
        let h : k < length bank = omega (arith, hit.below, is.count) in
        let here : (get_or bank k no_atom).row ≡ x.row = sym (row-held is k h) ∙ hit.same ∙ ap (λ (z : Entry). z.row) ex in
        let f : First bank x.row k = distinct-first bank x.row k is.distinct h here in
        record {
          count = is.count ∙ sym (held-length bank old x k f);
          arrays = rows_with
              (et ∙ ap (λ (z : Arrays). put_better (texts_of z) k e.text e.cost) is.arrays
              ∙ ap (λ (z : Entry). put_better (texts_of (written bank old)) k z.text z.cost) ex ∙ held-texts bank old x k f)
              (er ∙ ap (λ (z : Arrays). z.rows) is.arrays ∙ sym (held_rows bank old x k f));
          wide = push-wide bank x (ap length (sym here) ∙ is.wide k h) is.wide;
          distinct = push-distinct bank x is.distinct;
        }

-- ---- a new row
-- an atom stored after the last is the list with it pushed
new-arrays : (bank : List Atom) (old : Arrays) (x : Atom) → Absent bank x.row → length x.row ≡ 16
    → put_entry (written bank old) (length bank) (entry_of x) ≡ written (push bank x) old
new-arrays bank old x none long =
    rows_with refl (ap (λ (z : List ℕ). put_part 16 (written bank old).rows (length bank) z) (sym (row-full x long)))
    ∙ sym (written-add bank old x)
    ∙ ap (λ (z : List Atom). written z old) (sym (push-new bank x none))

-- the arm of `push` where the map does not find it
pub pushed_new : (a a' : Arrays) (work' : List ℕ) (n : ℕ) (e : Entry) (home : ℕ) → Miss 10 a.rows n e.row home
    → Appended a a' work' n e → Pushed a a' work' n e (n + 1)
pushed_new a a' work' n e home miss app = record {
  ready = app.ready;
  few = (omega arith, omega arith);
  bank = bank';
}
  where
    bank' : (old : Arrays) (bank : List Atom) (x : Atom) → e ≡ entry_of x → IsBank old a n bank → IsBank old a' (n + 1) (push bank x)
    bank' old bank x ex is =
        let row : e.row ≡ x.row = ap (λ (z : Entry). z.row) ex in
        let none : Absent bank x.row = λ j l q. miss.none j (omega (arith, is.count)) (row-held is j l ∙ q ∙ sym row) in
        let wide : length x.row ≡ 16 = ap length (sym row) ∙ app.wide in
        record {
          count = ap (λ (m : ℕ). m + 1) is.count ∙ sym (ap length (push-new bank x none) ∙ length-append bank (x ∷ []));
          arrays = app.arrays
              ∙ ap (λ (z : Arrays). put_entry z n e) is.arrays
              ∙ ap (λ (m : ℕ). put_entry (written bank old) m e) is.count
              ∙ ap (λ (z : Entry). put_entry (written bank old) (length bank) z) ex
              ∙ new-arrays bank old x none wide;
          wide = push-wide bank x wide is.wide;
          distinct = push-distinct bank x is.distinct;
        }

-- ---- no atom yet
-- what `start` leaves
pub started : (work work' : List ℕ) → work' ≡ cleared 10 work → 4 * 479 ≤ length work' → Started work'
started work work' e long = record {
  ready = λ a room. record { room = room; area = long; held = rw e (held-empty work a.rows 10) };
  bank = λ old. record { count = refl; arrays = sym (written_none old); wide = λ k l. absurd (omega arith); distinct = λ i j l m. absurd (omega arith) };
}
