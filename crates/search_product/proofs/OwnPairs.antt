-- What an index build that wasn't turned back left, as a search reads it: each pair's row is a gate's row of two atoms, and if it is uncut none is lost but
-- those passed over, which are an atom's row reduced.
-- Assumes nothing.
use mathlib.Core.Path.{◌≡◌, refl, sym, ap, ap₂, ◌∙◌, subst}
use mathlib.Core.Bool.{Bool, true, false, cond}
use mathlib.Core.Logic.{◌⊎◌, inl, inr}
use mathlib.Core.List.{List, [], ◌∷◌, ◌++◌, append_assoc}
use Prim.Native.Nat.{ℕ, zero, suc, ◌+◌, ◌*◌, ◌≤◌, ◌<◌}
use native.Mathlib.Decide.{ℕ_discrete}
use native.Mathlib.Nat.{mul-suc}
use native.Mathlib.Omega.{arith}
use borrow.Author.Tests.{ltb-false, le-ltb}
use lib.Dec.{ltb}
use lib.ListN.{length, get_or, take, drop, length-append, take-append-drop}
use lib.Seq.{take_at, drop-append-add}
use Rattle.arrays.specs.Lists.{In}
use Rattle.arrays.specs.Parts.{part_at, encode}
use Rattle.limits.specs.Refusal.{Outcome, refused, answer, outcome}
use Rattle.arrays.proofs.Lists.{false_true, bool_cases, get_d_map}
use Rattle.arrays.proofs.Parts.{length-part}
use Rattle.limits.proofs.Refusals.{unless_not}
use Rattle.row_gates.specs.Gates.{gate_row, reduced_row}
use Rattle.row_gates.specs.declared.Gate.{Gate}
use Rattle.row_gates.specs.declared.Gate.TheVariants.{And, Or, Xor, Add, Mul}
use Rattle.index_spec.specs.Index.{Pair, all_gates, passes_over, rows_of, rows_in, all_pairs, index_of}
use Rattle.index_spec.specs.Encoding.{pair_row}
use Rattle.index.specs.declared.BuiltIndex.{BuiltIndex}
use Rattle.index.specs.Build.{order_list, index_refusal, lent_index, summary_of}
use Rattle.index_spec.specs.Facts.{Holds, no_pair}
use Rattle.index_order.proofs.OrderLaws.{order-length}
use Rattle.index_spec.proofs.IndexLaws.{index-is_sound, uncut_loses_none, passed_over_is-reduced, rows-length}
use Rattle.index_spec.proofs.RowLaws.{length-rows_of, rows_at, gate-long}
use Rattle.index.proofs.Passing.{none-refused}
use Rattle.search_product.specs.Demand.{OwnIndex, Uncut}
use Rattle.search_product.specs.Own.{BuiltIsOwn}

-- ---- a call that was answered was not turned back
pub record Answered {A : Type 0} (number : ℕ) (value found : A) : Type 0 where
  pub free : ltb 0 number ≡ false
  pub is : value ≡ found

abbrev value_of : {A : Type 0} → A → Outcome A → A
value_of d (refused number) = d
value_of d (answer value) = value

abbrev is_refused : {A : Type 0} → Outcome A → Bool
is_refused (refused number) = true
is_refused (answer value) = false

pub answered : {A : Type 0} (number : ℕ) (value found : A) → outcome number value ≡ answer found → Answered number value found
answered number value found e = go (ltb 0 number) refl e
  where
    go : (b : Bool) → ltb 0 number ≡ b → cond b (refused number) (answer value) ≡ answer found → Answered number value found
    go true p q = absurd (false_true (sym (ap is_refused q)))
    go false p q = record { free = p; is = ap (value_of value) q }

pub zero_of : (number : ℕ) → ltb 0 number ≡ false → number ≡ 0
zero_of number e = omega (arith, ltb-false 0 number e)

-- ---- the rows of pairs, each of sixteen words, as parts of an array
part_at_lem : (ps : List Pair) (rest : List ℕ) (k : ℕ) → ((i : ℕ) → i < length ps → length (get_or ps i no_pair).row ≡ 16) → k < length ps
    → part_at 16 (encode pair_row ps ++ rest) k ≡ (get_or ps k no_pair).row
unfolding encode part_at
part_at_lem [] rest k wide h = absurd (omega arith)
part_at_lem (p ∷ ps) rest zero wide h = rw append_assoc (take_at p.row (encode pair_row ps ++ rest) 16 (wide 0 (omega arith)))
part_at_lem (p ∷ ps) rest (suc k) wide h =
    let past : 16 * suc k ≡ length p.row + 16 * k = omega (arith, wide 0 (omega arith), mul-suc 16 k) in
    rw (append_assoc p.row (encode pair_row ps) rest, past, drop-append-add p.row (encode pair_row ps ++ rest) (16 * k))
    (part_at_lem ps rest k (λ i l. wide (suc i) (omega arith)) (omega arith))

pub rows_long : (ps : List Pair) → ((i : ℕ) → i < length ps → length (get_or ps i no_pair).row ≡ 16) → length (encode pair_row ps) ≡ 16 * length ps
unfolding encode
rows_long [] wide = refl
rows_long (p ∷ ps) wide =
    let more = rows_long ps (λ i l. wide (suc i) (omega arith)) in
    omega (arith, more, wide 0 (omega arith), length-append p.row (encode pair_row ps), mul-suc 16 (length ps))

-- ---- every gate is among all
all-gates : (g : Gate) → In g all_gates
unfolding all_gates
all-gates And = inl refl
all-gates Or = inr (inl refl)
all-gates Xor = inr (inr (inl refl))
all-gates Add = inr (inr (inr (inl refl)))
all-gates Mul = inr (inr (inr (inr (inl refl))))

-- one of the first n rows is the row
pub record Has (n : ℕ) (rows row : List ℕ) : Type 0 where
  pub slot : ℕ
  pub below : slot < n
  pub is : part_at 16 rows slot ≡ row

-- the row is a gate's row of two atoms
pub record Gated (w count : ℕ) (atoms row : List ℕ) : Type 0 where
  pub g : Gate
  pub b : ℕ
  pub c : ℕ
  pub b-below : b < count
  pub c-below : c < count
  pub is : row ≡ gate_row g w (part_at 16 atoms b) (part_at 16 atoms c)

-- lent rows of all atoms. A record, so that antt finds the bank, the width and the limit of a law about it
pub record Fit (w count : ℕ) (atoms : List ℕ) (L : ℕ) : Type 0 where
  pub rows : 16 * count ≤ length atoms

module _ {w count : ℕ} {atoms : List ℕ} {L : ℕ} (fit : Fit w count atoms L) where
  abbrev bank : List (List ℕ)
  bank = rows_of count atoms

  abbrev pairs : List Pair
  pairs = (lent_index w count atoms L).pairs

  pub atom-long : (a : ℕ) → a < count → length (part_at 16 atoms a) ≡ 16
  atom-long a h = length-part 16 atoms a (omega (arith, fit.rows))

  pub gate-row-long : (g : Gate) (b c : ℕ) → b < count → c < count → length (gate_row g w (part_at 16 atoms b) (part_at 16 atoms c)) ≡ 16
  gate-row-long g b c hb hc = gate-long g w atoms b c (omega (arith, fit.rows)) (omega (arith, fit.rows))

  -- a pair's row is its gate's
  sound : (k : ℕ) → k < length pairs → Gated w count atoms (get_or pairs k no_pair).row
  sound k h =
      let p = get_or pairs k no_pair in
      let s = (index-is_sound w L all_gates bank).pair k h in
      let hc : p.c < count = omega (arith, s.below, length-rows_of count atoms) in
      let hb : p.b < count = omega (arith, s.ordered) in
      record {
        g = p.gate;
        b = p.b;
        c = p.c;
        b-below = hb;
        c-below = hc;
        is = s.row ∙ ap₂ (gate_row p.gate w) (rows_at count atoms p.b hb) (rows_at count atoms p.c hc);
      }

  pub row-long : (k : ℕ) → k < length pairs → length (get_or pairs k no_pair).row ≡ 16
  row-long k h = let s = sound k h in ap length s.is ∙ gate-row-long s.g s.b s.c s.b-below s.c-below

  module _ {n : ℕ} {listed order : List ℕ} (own : OwnIndex w count atoms L n listed order) where
    pair-row : (s : ℕ) → s < n → part_at 16 listed s ≡ (get_or pairs s no_pair).row
    pair-row s h =
        ap (λ (l : List ℕ). part_at 16 l s) (sym (take-append-drop (16 * n) listed) ∙ ap (λ (l : List ℕ). l ++ drop (16 * n) listed) own.rows_are)
        ∙ part_at_lem pairs (drop (16 * n) listed) s row-long (omega (arith, own.count-is))

    pub pair-gated : (s : ℕ) → s < n → Gated w count atoms (part_at 16 listed s)
    pair-gated s h =
        let t = sound s (omega (arith, own.count-is)) in
        record { g = t.g; b = t.b; c = t.c; b-below = t.b-below; c-below = t.c-below; is = pair-row s h ∙ t.is }

    -- uncut, each gate's row of two atoms is an atom's or a pair's
    atom_has : (row : List ℕ) → Holds bank row → Has count atoms row
    atom_has row h =
        let l : h.at < count = omega (arith, h.below, length-rows_of count atoms) in
        record { slot = h.at; below = l; is = sym (rows_at count atoms h.at l) ∙ h.is }

    pair_has : (row : List ℕ) → Holds (rows_in pairs) row → Has n listed row
    unfolding rows_in
    pair_has row h =
        let l : h.at < length pairs = omega (arith, h.below, rows-length pairs) in
        let b : h.at < n = omega (arith, own.count-is) in
        record { slot = h.at; below = b; is = pair-row h.at b ∙ sym (get_d_map (λ (p : Pair). p.row) pairs h.at no_pair [] l) ∙ h.is }

    module _ (uncut : Uncut w count atoms L) (g : Gate) (b c : ℕ) (hb : b < count) (hc : c < count) where
      abbrev row : List ℕ
      row = gate_row g w (part_at 16 atoms b) (part_at 16 atoms c)

      pub tried-kept : (passes_over g ≡ true → b ≡ c → ⊥) → Has count atoms row ⊎ Has n listed row
      unfolding index_of
      tried-kept other =
          let long = length-rows_of count atoms in
          let whole : (lent_index w count atoms L).cut ≡ false = le-ltb L (length (all_pairs w all_gates bank)) uncut in
          let e : gate_row g w (get_or bank b []) (get_or bank c []) ≡ row = ap₂ (gate_row g w) (rows_at count atoms b hb) (rows_at count atoms c hc) in
          elim (uncut_loses_none w L all_gates bank whole g (all-gates g) b c (omega arith) (omega arith) other) [
            | inl h ↦ inl (atom_has _ (record { at = h.at; below = h.below; is = h.is ∙ e }))
            | inr h ↦ inr (pair_has _ (record { at = h.at; below = h.below; is = h.is ∙ e }))
          ]

      -- or it is passed over, and is atom b's reduced
      pub none_lost : (Has count atoms row ⊎ Has n listed row) ⊎ (row ≡ reduced_row w (part_at 16 atoms b))
      none_lost = elim (bool_cases (passes_over g)) [
        | inr f ↦ inl (tried-kept (λ p. absurd (false_true (sym f ∙ p))))
        | inl p ↦ elim (ℕ_discrete b c) [
          | no n ↦ inl (tried-kept (λ _. n))
          | yes e ↦ inr (subst (λ (k : ℕ). gate_row g w (part_at 16 atoms b) (part_at 16 atoms k) ≡ reduced_row w (part_at 16 atoms b)) e (passed_over_is-reduced g p w (part_at 16 atoms b)))
        ]
      ]

-- ---- what a build left
pub built-is_own : BuiltIsOwn
built-is_own w count atoms L old left r said built says =
    let number = index_refusal w count atoms L old in
    let free = answered number (summary_of (lent_index w count atoms L)) said (sym built.says ∙ says) in
    let none = zero_of number free.free in
    let fit : Fit w count atoms L = record { rows = (none-refused w count L (length atoms) _ _ _ _ none).atoms } in
    let ps = (lent_index w count atoms L).pairs in
    let n : length ps ≡ said.pairs = ap (λ (s : BuiltIndex). s.pairs) free.is in
    let wide : length (encode pair_row ps) ≡ 16 * said.pairs = rows_long ps (row-long fit) ∙ ap (λ (k : ℕ). 16 * k) n in
    let ordered : length (order_list ps) ≡ said.pairs = order-length (length ps) (encode pair_row ps) ∙ n in
    record {
      count-is = sym n;
      rows_are = ap (take (16 * said.pairs)) (built.rows_are ∙ unless_not number _ _ none) ∙ take_at (encode pair_row ps) _ (16 * said.pairs) wide;
      order_is = ap (take said.pairs) (built.order ∙ unless_not number _ _ none) ∙ take_at (order_list ps) _ said.pairs ordered;
    }
