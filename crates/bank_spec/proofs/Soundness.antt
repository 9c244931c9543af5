-- Every atom of a bank is its formula's: the row at the points, the cost, and the test passed; no two share a row; and sizes stay below a bound, since a slot is only
-- ever given a formula that is no larger. For any formulas, unary tokens and seeds. Assumes nothing.
use mathlib.Core.Path.{◌≡◌, refl, sym, ap, ◌∙◌, subst}
use mathlib.Core.Bool.{true}
use mathlib.Core.Logic.{inl, inr}
use mathlib.Core.List.{List, [], ◌∷◌, ◌++◌, map}
use Prim.Native.Nat.{ℕ, zero, suc, ◌+◌, ◌≤◌, ◌<◌}
use native.Mathlib.Omega.{arith}
use lib.ListN.{length, get_or, set, length-append, length-set, get_or-append}
use lib.Seq.{get_or_at}
use Rattle.limits.proofs.Refusals.{le_or_lt}
use Rattle.expr.specs.declared.Token.{Token}
use Rattle.expr.specs.declared.Token.TheVariants.{Not, Neg}
use Rattle.expr.specs.Formula.{is_formula}
use Rattle.expr.proofs.Formulas.{constant-passes, not-passes, neg-passes}
use Rattle.expr_cost.specs.declared.Cost.{Cost}
use Rattle.expr_cost.specs.declared.CostInfo.{CostInfo}
use Rattle.expr_cost.specs.Cost.{cost_of}
use Rattle.expr_cost.proofs.Formulas.{info_constant, info_not, info_neg, tokens_le_size}
use Rattle.probe_points.specs.declared.Point.{Point}
use Rattle.probe.proofs.FormulaRows.{length-row_of}
use Rattle.bank_spec.specs.Push.{Atom, no_atom, atom_of, push, push_all, turn, turns, built}
use Rattle.bank_spec.specs.Facts.{SoundAtom}
use Rattle.bank_spec.proofs.Lists.{Every, every-at, every_append, every_set, every_more, every_map}
use Rattle.bank_spec.proofs.Pushes.{Absent, Distinct, push_cases}
use Rattle.bank_spec.proofs.Growth.{Grows, set_grows, turn_grows, turns_grows, constant_form}

-- ---- no two atoms share a row
same-rows-distinct : (bank later : List Atom) → length later ≡ length bank → Grows bank later → Distinct bank → Distinct later
same-rows-distinct bank later e g d i j l h q =
    d i j l (omega arith) (sym (g.rows i (omega arith)) ∙ q ∙ g.rows j (omega arith))

add-distinct : (bank : List Atom) (a : Atom) → Absent bank a.row → Distinct bank → Distinct (bank ++ (a ∷ []))
add-distinct bank a none d i j l h q =
    elim (le_or_lt (length bank) j) [
      | inl m ↦
          let e : j ≡ length bank = omega (arith, length-append bank (a ∷ [])) in
          none i (omega arith) (sym (row_below i (omega arith)) ∙ q ∙ ap (λ (x : Atom). x.row) (get_or_at bank a [] no_atom j (sym e)))
      | inr m ↦ d i j l m (sym (row_below i (omega arith)) ∙ q ∙ row_below j m)
    ]
  where
    row_below : (k : ℕ) → k < length bank → (get_or (bank ++ (a ∷ [])) k no_atom).row ≡ (get_or bank k no_atom).row
    row_below k m = ap (λ (x : Atom). x.row) (get_or-append bank (a ∷ []) no_atom k m)

-- a push keeps rows distinct: it adds one only if no slot has it
pub push-distinct : (bank : List Atom) (a : Atom) → Distinct bank → Distinct (push bank a)
push-distinct bank a d =
    push_cases (λ (l : List Atom). Distinct l) bank a
    (λ k f e. same-rows-distinct bank (set bank k a) (length-set bank k a) (set_grows bank k a f e) d) (λ k f e. d) (λ n. add-distinct bank a n d)

-- ---- one atom
-- sound, and of weighted size at most n
pub record Fine (nv w : ℕ) (points : List Point) (n : ℕ) (a : Atom) : Type 0 where
  pub sound : SoundAtom nv w points a
  pub size : a.cost.size ≤ n

-- a formula that passes the test, of weighted size at most n
pub record Fits (nv n : ℕ) (ts : List Token) : Type 0 where
  pub formula : is_formula nv ts ≡ true
  pub size : (cost_of ts).size ≤ n

module _ (nv w : ℕ) (points : List Point) where
  -- a formula that fits makes a fine atom
  pub atom_fine : (n : ℕ) (ts : List Token) → Fits nv n ts → Fine nv w points n (atom_of w points ts)
  unfolding atom_of
  atom_fine n ts f = record { sound = record { row = refl; cost = refl; formula = f.formula }; size = f.size }

  -- and a fine atom's formula fits
  pub fine_fits : (n : ℕ) (a : Atom) → Fine nv w points n a → Fits nv n a.form
  fine_fits n a f = record { formula = f.sound.formula; size = subst (λ (c : Cost). c.size ≤ n) f.sound.cost f.size }

  -- a larger bound holds too
  pub fine_more : (m n : ℕ) → m ≤ n → (a : Atom) → Fine nv w points m a → Fine nv w points n a
  fine_more m n h a f = record { sound = f.sound; size = omega (arith, f.size) }

  -- its row has a word for each point
  pub sound_row : (a : Atom) → SoundAtom nv w points a → length a.row ≡ length points
  sound_row a s = ap length s.row ∙ length-row_of w points a.form

-- a formula of weighted size at most n has at most n tokens
pub fits-tokens : (nv n : ℕ) (ts : List Token) → Fits nv n ts → length ts ≤ n
fits-tokens nv n ts f = omega (arith, tokens_le_size nv ts f.formula, f.size)

-- a constant has size 1
pub fits-constant : (nv n v : ℕ) → 1 ≤ n → Fits nv n (constant_form v)
fits-constant nv n v h = record { formula = constant-passes nv v; size = subst (λ (c : CostInfo). c.cost.size ≤ n) (sym (info_constant v)) h }

-- so have all seeds
pub fits-constants : (nv n : ℕ) → 1 ≤ n → (vs : List ℕ) → Every (Fits nv n) (map constant_form vs)
fits-constants nv n h [] = tt
fits-constants nv n h (v ∷ vs) = (fits-constant nv n v h, fits-constants nv n h vs)

-- ---- unary tokens: they add 1 to the size
pub record Unary (u : Token) : Type 0 where
  pub passes : (nv : ℕ) (f : List Token) → is_formula nv f ≡ true → length f ≤ 63 → is_formula nv (f ++ (u ∷ [])) ≡ true
  pub size : (nv : ℕ) (f : List Token) → is_formula nv f ≡ true → (cost_of (f ++ (u ∷ []))).size ≡ (cost_of f).size + 1

-- Neg is such a token
pub neg_unary : Unary Neg
neg_unary = record { passes = λ nv f h l. neg-passes nv f h l; size = λ nv f h. ap (λ (c : CostInfo). c.cost.size) (info_neg nv f h) }

-- and so is Not
pub not_unary : Unary Not
not_unary = record { passes = λ nv f h l. not-passes nv f h l; size = λ nv f h. ap (λ (c : CostInfo). c.cost.size) (info_not nv f h) }

-- a unary token after a formula of size at most n, small enough for the test
pub fits_unary : (nv n : ℕ) (u : Token) (f : List Token) → n ≤ 63 → Unary u → Fits nv n f → Fits nv (n + 1) (f ++ (u ∷ []))
fits_unary nv n u f h un fits = record {
  formula = un.passes nv f fits.formula (omega (arith, fits-tokens nv n f fits));
  size = omega (arith, un.size nv f fits.formula, fits.size);
}

-- ---- a bank
-- every atom fine, and no two of one row
pub record Sound (nv w : ℕ) (points : List Point) (n : ℕ) (bank : List Atom) : Type 0 where
  pub atoms : Every (Fine nv w points n) bank
  pub distinct : Distinct bank

module _ (nv w : ℕ) (points : List Point) (n : ℕ) where
  -- the empty bank
  pub sound_none : Sound nv w points n []
  sound_none = record { atoms = tt; distinct = λ i j l h. omega arith }

  -- each slot of a sound bank is fine
  pub sound_at : (bank : List Atom) → Sound nv w points n bank → (k : ℕ) → k < length bank → Fine nv w points n (get_or bank k no_atom)
  sound_at bank s = every-at (Fine nv w points n) bank no_atom s.atoms

  -- a larger bound holds too
  pub sound_more : (m : ℕ) → n ≤ m → (bank : List Atom) → Sound nv w points n bank → Sound nv w points m bank
  sound_more m h bank s = record { atoms = every_more (Fine nv w points n) (Fine nv w points m) (fine_more nv w points n m h) bank s.atoms; distinct = s.distinct }

  -- a push of a fine atom
  pub push_sound : (bank : List Atom) (a : Atom) → Sound nv w points n bank → Fine nv w points n a → Sound nv w points n (push bank a)
  push_sound bank a s f = record {
    atoms =
        push_cases (λ (l : List Atom). Every (Fine nv w points n) l) bank a
        (λ k h e. every_set (Fine nv w points n) bank k a s.atoms f)
        (λ k h e. s.atoms)
        (λ h. every_append (Fine nv w points n) bank (a ∷ []) s.atoms (f, tt));
    distinct = push-distinct bank a s.distinct;
  }

  -- a list of formulas that fit: the stock, or seeds on any sound bank
  pub push_all_sound : (bank : List Atom) (fs : List (List Token)) → Every (Fits nv n) fs → Sound nv w points n bank → Sound nv w points n (push_all w points bank fs)
  unfolding push_all
  push_all_sound bank [] e s = s
  push_all_sound bank (f ∷ fs) e s =
      push_all_sound (push bank (atom_of w points f)) fs e.1 (push_sound bank (atom_of w points f) s (atom_fine nv w points n f e.0))

-- ---- turns: the slots whose turn comes hold formulas of size at most n, which they keep, and what is added is one larger
module _ (nv w : ℕ) (points : List Point) (n : ℕ) (few : n ≤ 63) (unaries : List Token) (un : Every Unary unaries) where
  -- one turn
  pub turn_sound : (bank : List Atom) (k : ℕ) → Sound nv w points (n + 1) bank → k < length bank → (get_or bank k no_atom).cost.size ≤ n
      → Sound nv w points (n + 1) (turn w points unaries bank k)
  unfolding turn
  turn_sound bank k s h l =
      let a : Atom = get_or bank k no_atom in
      let f : Fits nv n a.form = fine_fits nv w points n a (record { sound = (sound_at nv w points (n + 1) bank s k h).sound; size = l }) in
      push_all_sound nv w points (n + 1) bank (map (λ (u : Token). a.form ++ (u ∷ [])) unaries)
      (every_map Unary (Fits nv (n + 1)) (λ (u : Token). a.form ++ (u ∷ [])) (λ u h. fits_unary nv n u a.form few h f) unaries un) s

  -- the turns of m slots from slot k on
  pub turns_sound : (bank : List Atom) (k m : ℕ) → Sound nv w points (n + 1) bank → k + m ≤ length bank
      → ((j : ℕ) → k ≤ j → j < k + m → (get_or bank j no_atom).cost.size ≤ n)
      → Sound nv w points (n + 1) (turns w points unaries bank k m)
  unfolding turns
  turns_sound bank k zero s h small = s
  turns_sound bank k (suc m) s h small =
      let next : List Atom = turn w points unaries bank k in
      let g : Grows bank next = turn_grows w points unaries bank k in
      turns_sound next (suc k) m (turn_sound bank k s (omega arith) (small k (omega arith) (omega arith))) (omega arith)
      (λ j a b. omega (arith, g.sizes j (omega arith), small j (omega arith) (omega arith)))

-- ---- a whole build, over any formulas, unary tokens and seeds
module _ (nv w : ℕ) (points : List Point) (n : ℕ) (few : n ≤ 63) (formulas : List (List Token)) (unaries : List Token) (fits : Every (Fits nv n) formulas) (un : Every Unary unaries) where
  -- before the turns
  pub base_sound : Sound nv w points n (push_all w points [] formulas)
  base_sound = push_all_sound nv w points n [] formulas fits (sound_none nv w points n)

  -- before the turn of slot t, and after the last turn
  pub turned_sound : (t : ℕ) → t ≤ length (push_all w points [] formulas) → Sound nv w points (n + 1) (turns w points unaries (push_all w points [] formulas) 0 t)
  turned_sound t h =
      let base : List Atom = push_all w points [] formulas in
      turns_sound nv w points n few unaries un base 0 t (sound_more nv w points n (n + 1) (omega arith) base base_sound) (omega arith)
      (λ j a b. (sound_at nv w points n base base_sound j (omega arith)).size)

  -- at each turn the slots of the base still hold formulas of size at most n
  pub base_at-turn : (t : ℕ) → t ≤ length (push_all w points [] formulas) → (k : ℕ) → k < length (push_all w points [] formulas)
      → Fine nv w points n (get_or (turns w points unaries (push_all w points [] formulas) 0 t) k no_atom)
  base_at-turn t h k l =
      let base : List Atom = push_all w points [] formulas in
      let now : List Atom = turns w points unaries base 0 t in
      let g : Grows base now = turns_grows w points unaries base 0 t in
      record {
        sound = (sound_at nv w points (n + 1) now (turned_sound t h) k (omega (arith, g.longer))).sound;
        size = omega (arith, g.sizes k l, (sound_at nv w points n base base_sound k l).size);
      }

  -- the whole build
  pub built_sound : (seeds : List ℕ) → Sound nv w points (n + 1) (built w points formulas unaries seeds)
  unfolding built
  built_sound seeds =
      let base : List Atom = push_all w points [] formulas in
      push_all_sound nv w points (n + 1) (turns w points unaries base 0 (length base)) (map constant_form seeds) (fits-constants nv (n + 1) (omega arith) seeds) (turned_sound (length base) (omega arith))
