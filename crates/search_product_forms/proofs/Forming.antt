-- Laws of formulas in lent arrays: an atom's tokens, and what is written out of formulas is a formula with its cost. Assumes nothing.
use mathlib.Core.Path.{◌≡◌, refl, sym, ap₂}
use mathlib.Core.Bool.{Bool, true, false, not, ◌||◌}
use mathlib.Core.List.{List, [], ◌∷◌, ◌++◌}
use mathlib.Core.Option.{Option, none, some}
use Prim.Native.Nat.{ℕ, ◌+◌, ◌-◌, ◌*◌, ◌/◌, ◌≤◌, ◌<◌}
use native.Mathlib.Omega.{arith}
use borrow.Author.Tests.{ltb-false, leb-false, not-false}
use lib.Dec.{ltb, leb}
use lib.ListN.{length, get_or, take, drop, length-append}
use Rattle.arrays.specs.Lists.{count_up, first_that}
use Rattle.arrays.specs.Parts.{part_at}
use Rattle.arrays.proofs.Lists.{up_none}
use Rattle.arrays.proofs.Parts.{part_is}
use Rattle.limits.proofs.Refusals.{true_not_false, neither, enough}
use Rattle.row_gates.specs.declared.Gate.{Gate}
use Rattle.row_gates.specs.Gates.{gate_at}
use Rattle.expr.specs.declared.Token.{Token}
use Rattle.expr.specs.declared.Token.TheVariants.{Binary}
use Rattle.expr.specs.Formula.{is_some, tokens, is_formula}
use Rattle.expr.proofs.Tokens.{tokens-length}
use Rattle.expr.proofs.Machine.{passed}
use Rattle.expr.proofs.Formulas.{gate-passes}
use Rattle.expr_cost.specs.Cost.{info_of, info_gate, Roomy}
use Rattle.expr_cost.proofs.Formulas.{info_gate_lem, cost_roomy}
use Rattle.search_product_forms.specs.Forms.{Forms, atom_form, pair_form, pair_gate, pair_b, pair_c, gated}
use Rattle.search_product_forms.specs.Refusals.{some_below, short_forms, bad_atom, bad_atoms, bad_pair, bad_pairs}
use Rattle.search_product_forms.specs.Written.{Room, Written, Paired}
use Rattle.search_product_forms.specs.Lent.{forms_of, forms_with}
use Rattle.search_product_forms.specs.declared.inner.LentForms.{LentForms}

-- the tokens that are lent are atom k's
pub form-is : (f : Forms) (k : ℕ) → tokens (get_or f.lengths k 0) (take (6 * k + 6 - 6 * k) (drop (6 * k) f.ops)) (take (6 * k + 6 - 6 * k) (drop (6 * k) f.operands)) ≡ atom_form f k
unfolding atom_form
form-is f k = ap₂ (tokens (get_or f.lengths k 0)) (part_is 6 f.ops k) (part_is 6 f.operands k)

-- as many as its recorded length
pub form-length : (f : Forms) (k : ℕ) → length (atom_form f k) ≡ get_or f.lengths k 0
unfolding atom_form
form-length f k = tokens-length (part_at 6 f.ops k) (part_at 6 f.operands k) (get_or f.lengths k 0)

-- none below n passes
pub none_below : (n : ℕ) (test : ℕ → Bool) → some_below n test ≡ false → (k : ℕ) → k < n → test k ≡ false
none_below n test e = up_none test n (sym (nothing (first_that test (count_up 0 n)) e))
  where
    nothing : {A : Type 0} (o : Option A) → is_some o ≡ false → o ≡ none
    nothing none q = refl
    nothing (some x) q = absurd (true_not_false q)

-- ---- formulas that no refusal turns back
-- whatever the pairs are
pub form_with : (f : LentForms) (pairs : List ℕ) (k : ℕ) → atom_form (forms_of f) k ≡ atom_form (forms_with f pairs) k
unfolding atom_form
form_with f pairs k = refl

pub written_with : (f : LentForms) (pairs : List ℕ) → Written f.count (forms_of f) → Written f.count (forms_with f pairs)
unfolding atom_form
written_with f pairs w = record {
  room = record { lengths = w.room.lengths; ops = w.room.ops; operands = w.room.operands };
  few = w.few;
  short = w.short;
  formula = w.formula;
}

-- two formulas under a gate
module _ (a b : List Token) (g : Gate) (ha : is_formula 6 a ≡ true) (hb : is_formula 6 b ≡ true) where
  pub gated-passes : length a + length b ≤ 63 → is_formula 6 (gated a b g) ≡ true
  gated-passes = gate-passes 6 a ha b hb g

  pub gated_info : info_of (gated a b g) ≡ info_gate g (info_of a) (info_of b)
  gated_info = info_gate_lem 6 a ha b hb g

pub gated-length : (a b : List Token) (g : Gate) → length (gated a b g) ≡ length a + length b + 1
gated-length a b g = omega (arith, length-append a (b ++ (Binary g ∷ [])), length-append b (Binary g ∷ []))

module _ {count : ℕ} {f : Forms} (w : Written count f) where
  pub atom-short : (k : ℕ) → k < count → length (atom_form f k) ≤ 6
  atom-short k h = omega (arith, form-length f k, w.short.most k h)

  pub atom-some : (k : ℕ) → k < count → 1 ≤ length (atom_form f k)
  atom-some k h = (passed 6 (atom_form f k) (w.formula k h)).least

  pub atom_roomy : (k : ℕ) → k < count → Roomy (info_of (atom_form f k)).cost
  atom_roomy k h = cost_roomy 6 (atom_form f k) (w.formula k h)

  -- pair s, written out
  module _ {n : ℕ} (p : Paired count n f) (s : ℕ) (h : s < n) where
    abbrev b : List Token
    b = atom_form f (pair_b f s)

    abbrev c : List Token
    c = atom_form f (pair_c f s)

    pub pair-formula : is_formula 6 (pair_form f s) ≡ true
    unfolding pair_form
    pair-formula =
        gated-passes b c (gate_at (pair_gate f s)) (w.formula (pair_b f s) (p.b-below s h)) (w.formula (pair_c f s) (p.c-below s h))
        (omega (arith, atom-short (pair_b f s) (p.b-below s h), atom-short (pair_c f s) (p.c-below s h)))

    pub pair-cost : info_of (pair_form f s) ≡ info_gate (gate_at (pair_gate f s)) (info_of b) (info_of c)
    unfolding pair_form
    pair-cost = gated_info b c (gate_at (pair_gate f s)) (w.formula (pair_b f s) (p.b-below s h)) (w.formula (pair_c f s) (p.c-below s h))

    pub pair_roomy : Roomy (info_of (pair_form f s)).cost
    pair_roomy = cost_roomy 6 (pair_form f s) pair-formula

    pub pair-length : length (pair_form f s) ≡ get_or f.lengths (pair_b f s) 0 + get_or f.lengths (pair_c f s) 0 + 1
    unfolding pair_form
    pair-length = omega (arith, gated-length b c (gate_at (pair_gate f s)), form-length f (pair_b f s), form-length f (pair_c f s))

    pub pair-some : 3 ≤ length (pair_form f s)
    unfolding pair_form
    pair-some = omega (arith, gated-length b c (gate_at (pair_gate f s)), atom-some (pair_b f s) (p.b-below s h), atom-some (pair_c f s) (p.c-below s h))

    pub pair-short : length (pair_form f s) ≤ 13
    unfolding pair_form
    pair-short = omega (arith, gated-length b c (gate_at (pair_gate f s)), atom-short (pair_b f s) (p.b-below s h), atom-short (pair_c f s) (p.c-below s h))

-- ---- what no refusal turns back
module _ (count n : ℕ) (f : Forms) where
  -- arrays that are long enough
  pub record Fits : Type 0 where
    pub room : Room count f
    pub pairs : 3 * n ≤ length f.pairs

  pub fits_of : short_forms count n f ≡ false → Fits
  fits_of e =
      let one = neither (ltb (length f.lengths) count) _ e in
      let two = neither (ltb (length f.ops / 6) count) _ one.1 in
      let three = neither (ltb (length f.operands / 6) count) _ two.1 in
      record {
        room = record {
          lengths = ltb-false _ _ one.0;
          ops = enough 6 (length f.ops) count (omega arith) two.0;
          operands = enough 6 (length f.operands) count (omega arith) three.0;
        };
        pairs = enough 3 (length f.pairs) n (omega arith) three.1;
      }

  -- and formulas and pairs that pass
  pub written_of : Room count f → count ≤ 479 → bad_atoms count f ≡ false → Written count f
  written_of room few e = record {
    room = room;
    few = few;
    short = record { fit = room.lengths; most = λ k h. ltb-false _ _ (good k h).0 };
    formula = λ k h. not-false (is_formula 6 (atom_form f k)) (good k h).1;
  }
    where
      good : (k : ℕ) → k < count → (ltb 6 (get_or f.lengths k 0) ≡ false) × (not (is_formula 6 (atom_form f k)) ≡ false)
      good k h = neither (ltb 6 (get_or f.lengths k 0)) _ (none_below count (bad_atom f) e k h)

  pub paired_of : 3 * n ≤ length f.pairs → bad_pairs count n f ≡ false → Paired count n f
  paired_of fit e = record {
    pairs = fit;
    b-below = λ s h. leb-false _ _ (neither (leb count (pair_b f s)) _ (good s h)).0;
    c-below = λ s h. leb-false _ _ (neither (leb count (pair_b f s)) _ (good s h)).1;
  }
    where
      good : (s : ℕ) → s < n → (leb count (pair_b f s) || leb count (pair_c f s)) ≡ false
      good s h = (neither (ltb 4 (pair_gate f s)) _ (none_below n (bad_pair count f) e s h)).1
