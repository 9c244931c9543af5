-- What a bank keeps as it grows: each slot its row, and no slot a larger size than it had. So nothing that was pushed is lost. Assumes nothing.
use mathlib.Core.Path.{◌≡◌, refl, sym, ap, ◌∙◌, subst}
use mathlib.Core.Bool.{true}
use mathlib.Core.List.{List, [], ◌∷◌, ◌++◌, map}
use Prim.Native.Nat.{ℕ, zero, suc, ◌+◌, ◌*◌, ◌≤◌, ◌<◌}
use native.Mathlib.Nat.{suc-mul}
use native.Mathlib.Decide.{ℕ_discrete}
use native.Mathlib.Omega.{arith}
use lib.ListN.{length, get_or, set, length-append, length-map, length-set, get_or-append}
use lib.Seq.{get_or_at, get_or-set_same, get_or-set_other}
use Rattle.expr.specs.declared.Token.{Token}
use Rattle.expr.specs.declared.Token.TheVariants.{Constant, Bad}
use Rattle.expr_cost.specs.declared.Cost.{Cost}
use Rattle.expr_cost.specs.Cost.{is_better}
use Rattle.expr_cost.proofs.Costs.{Better, better_by}
use Rattle.expr_cost.proofs.Costs.Better.{size, products, depth}
use Rattle.probe_points.specs.declared.Point.{Point}
use Rattle.probe.specs.FormulaRow.{row_of}
use Rattle.bank_spec.specs.Push.{Atom, no_atom, atom_of, push, push_all, turn, turns, built}
use Rattle.bank_spec.specs.Facts.{Holds}
use Rattle.arrays.proofs.Lists.{get_d_map}
use Rattle.bank_spec.proofs.Pushes.{First, push_cases, push-one-more}

-- `later` has a slot for each of the bank's, with its row, and none of them larger
pub record Grows (bank later : List Atom) : Type 0 where
  pub longer : length bank ≤ length later
  pub rows : (k : ℕ) → k < length bank → (get_or later k no_atom).row ≡ (get_or bank k no_atom).row
  pub sizes : (k : ℕ) → k < length bank → (get_or later k no_atom).cost.size ≤ (get_or bank k no_atom).cost.size

-- every bank does so of itself
pub grows_none : (bank : List Atom) → Grows bank bank
grows_none bank = record { longer = omega arith; rows = λ k h. refl; sizes = λ k h. omega arith }

-- and step by step
pub grows_on : (a b c : List Atom) → Grows a b → Grows b c → Grows a c
grows_on a b c p q = record {
  longer = omega (arith, p.longer, q.longer);
  rows = λ k h. q.rows k (omega (arith, p.longer)) ∙ p.rows k h;
  sizes = λ k h. omega (arith, p.sizes k h, q.sizes k (omega (arith, p.longer)));
}

-- ---- one push
better_size : (c d : Cost) → Better c d → c.size ≤ d.size
better_size c d (size l) = omega arith
better_size c d (products e l) = omega arith
better_size c d (depth e f l) = omega arith

-- a slot given a better atom of its row
pub set_grows : (bank : List Atom) (k : ℕ) (a : Atom) → First bank a.row k → is_better a.cost (get_or bank k no_atom).cost ≡ true → Grows bank (set bank k a)
set_grows bank k a f e = record { longer = omega (arith, length-set bank k a); rows = rows; sizes = sizes }
  where
    here : get_or (set bank k a) k no_atom ≡ a
    here = get_or-set_same bank k a no_atom f.below

    rows : (j : ℕ) → j < length bank → (get_or (set bank k a) j no_atom).row ≡ (get_or bank j no_atom).row
    rows j h =
        elim (ℕ_discrete j k) [
          | yes q ↦ subst (λ (i : ℕ). (get_or (set bank k a) i no_atom).row ≡ (get_or bank i no_atom).row) (sym q) (ap (λ (x : Atom). x.row) here ∙ sym f.same)
          | no n ↦ ap (λ (x : Atom). x.row) (get_or-set_other bank k j a no_atom n)
        ]

    sizes : (j : ℕ) → j < length bank → (get_or (set bank k a) j no_atom).cost.size ≤ (get_or bank j no_atom).cost.size
    sizes j h =
        elim (ℕ_discrete j k) [
          | yes q ↦ subst (λ (i : ℕ). (get_or (set bank k a) i no_atom).cost.size ≤ (get_or bank i no_atom).cost.size) (sym q)
              (subst (λ (x : Atom). x.cost.size ≤ (get_or bank k no_atom).cost.size) (sym here) (better_size a.cost (get_or bank k no_atom).cost (better_by _ _ e)))
          | no n ↦ subst (λ (x : Atom). x.cost.size ≤ (get_or bank j no_atom).cost.size) (sym (get_or-set_other bank k j a no_atom n)) (omega arith)
        ]

add_grows : (bank : List Atom) (a : Atom) → Grows bank (bank ++ (a ∷ []))
add_grows bank a = record {
  longer = omega (arith, length-append bank (a ∷ []));
  rows = λ k h. ap (λ (x : Atom). x.row) (get_or-append bank (a ∷ []) no_atom k h);
  sizes = λ k h. subst (λ (x : Atom). x.cost.size ≤ (get_or bank k no_atom).cost.size) (sym (get_or-append bank (a ∷ []) no_atom k h)) (omega arith);
}

-- a push does
pub push_grows : (bank : List Atom) (a : Atom) → Grows bank (push bank a)
push_grows bank a =
    push_cases (λ (l : List Atom). Grows bank l) bank a (λ k f e. set_grows bank k a f e) (λ k f e. grows_none bank) (λ n. add_grows bank a)

-- ---- what is held
-- what a bank holds, it still holds when it has grown
pub holds_later : (bank later : List Atom) (row : List ℕ) → Grows bank later → Holds bank row → Holds later row
holds_later bank later row g h = record { slot = h.slot; below = omega (arith, g.longer, h.below); same = g.rows h.slot h.below ∙ h.same }

-- the row of what was pushed is held
pub push-holds : (bank : List Atom) (a : Atom) → Holds (push bank a) a.row
push-holds bank a =
    push_cases (λ (l : List Atom). Holds l a.row) bank a
    (λ k f e. record { slot = k; below = omega (arith, length-set bank k a, f.below); same = ap (λ (x : Atom). x.row) (get_or-set_same bank k a no_atom f.below) })
    (λ k f e. record { slot = k; below = f.below; same = f.same })
    (λ n. record { slot = length bank; below = omega (arith, length-append bank (a ∷ [])); same = ap (λ (x : Atom). x.row) (get_or_at bank a [] no_atom (length bank) refl) })

module _ (w : ℕ) (points : List Point) where
  -- ---- a list of formulas
  -- so does a list of pushes
  pub push_all_grows : (bank : List Atom) (fs : List (List Token)) → Grows bank (push_all w points bank fs)
  unfolding push_all
  push_all_grows bank [] = grows_none bank
  push_all_grows bank (f ∷ fs) =
      let next : List Atom = push bank (atom_of w points f) in
      grows_on bank next (push_all w points next fs) (push_grows bank (atom_of w points f)) (push_all_grows next fs)

  -- each formula adds one slot at most
  pub push_all-few : (bank : List Atom) (fs : List (List Token)) → length (push_all w points bank fs) ≤ length bank + length fs
  unfolding push_all
  push_all-few bank [] = omega arith
  push_all-few bank (f ∷ fs) = omega (arith, push_all-few (push bank (atom_of w points f)) fs, push-one-more bank (atom_of w points f))

  -- the row of each formula is held
  pub push_all-holds : (bank : List Atom) (fs : List (List Token)) (i : ℕ) → i < length fs → Holds (push_all w points bank fs) (row_of w points (get_or fs i []))
  unfolding push_all atom_of
  push_all-holds bank [] i h = absurd (omega arith)
  push_all-holds bank (f ∷ fs) zero h =
      let next : List Atom = push bank (atom_of w points f) in
      holds_later next (push_all w points next fs) (row_of w points f) (push_all_grows next fs) (push-holds bank (atom_of w points f))
  push_all-holds bank (f ∷ fs) (suc i) h = push_all-holds (push bank (atom_of w points f)) fs i (omega arith)

  -- ---- turns
  module _ (unaries : List Token) where
    -- a turn grows the bank
    pub turn_grows : (bank : List Atom) (k : ℕ) → Grows bank (turn w points unaries bank k)
    unfolding turn
    turn_grows bank k = push_all_grows bank (map (λ (u : Token). (get_or bank k no_atom).form ++ (u ∷ [])) unaries)

    -- by one slot for each unary token, at most
    pub turn-few : (bank : List Atom) (k : ℕ) → length (turn w points unaries bank k) ≤ length bank + length unaries
    unfolding turn
    turn-few bank k =
        let fs : List (List Token) = map (λ (u : Token). (get_or bank k no_atom).form ++ (u ∷ [])) unaries in
        omega (arith, push_all-few bank fs, length-map unaries (λ (u : Token). (get_or bank k no_atom).form ++ (u ∷ [])))

    -- and holds the row of each unary token after the slot's formula
    pub turn_holds : (bank : List Atom) (k i : ℕ) → i < length unaries → Holds (turn w points unaries bank k) (row_of w points ((get_or bank k no_atom).form ++ (get_or unaries i Bad ∷ [])))
    unfolding turn
    turn_holds bank k i h =
        let f : Token → List Token = λ u. (get_or bank k no_atom).form ++ (u ∷ []) in
        subst (λ (ts : List Token). Holds (push_all w points bank (map f unaries)) (row_of w points ts)) (get_d_map f unaries i Bad [] h)
        (push_all-holds bank (map f unaries) i (omega (arith, length-map unaries f)))

    -- turns grow the bank
    pub turns_grows : (bank : List Atom) (k n : ℕ) → Grows bank (turns w points unaries bank k n)
    unfolding turns
    turns_grows bank k zero = grows_none bank
    turns_grows bank k (suc n) =
        let next : List Atom = turn w points unaries bank k in
        grows_on bank next (turns w points unaries next (suc k) n) (turn_grows bank k) (turns_grows next (suc k) n)

    -- each turn adds as many slots as there are unary tokens, at most
    pub turns-few : (bank : List Atom) (k n : ℕ) → length (turns w points unaries bank k n) ≤ length bank + n * length unaries
    unfolding turns
    turns-few bank k zero = omega arith
    turns-few bank k (suc n) =
        omega (arith, turns-few (turn w points unaries bank k) (suc k) n, turn-few bank k, suc-mul n (length unaries))

    -- after n turns the row of each unary token after each formula as it was at its turn is held
    pub turns_hold : (bank : List Atom) (k n t i : ℕ) → t < n → i < length unaries
        → Holds (turns w points unaries bank k n) (row_of w points ((get_or (turns w points unaries bank k t) (k + t) no_atom).form ++ (get_or unaries i Bad ∷ [])))
    unfolding turns
    turns_hold bank k zero t i h l = absurd (omega arith)
    turns_hold bank k (suc n) zero i h l =
        let e : k + 0 ≡ k = omega arith in
        let next : List Atom = turn w points unaries bank k in
        rw e (holds_later next (turns w points unaries next (suc k) n) _ (turns_grows next (suc k) n) (turn_holds bank k i l))
    turns_hold bank k (suc n) (suc t) i h l =
        let e : k + suc t ≡ suc k + t = omega arith in
        rw e (turns_hold (turn w points unaries bank k) (suc k) n t i (omega arith) l)

-- ---- a whole build, over any formulas, unary tokens and seeds
abbrev pub constant_form : ℕ → List Token
constant_form v = Constant v ∷ []

module _ (w : ℕ) (points : List Point) (formulas : List (List Token)) (unaries : List Token) (seeds : List ℕ) where
  -- the base, a slot for each unary token at each base atom's turn, and the seeds, at most
  pub built-few : length (built w points formulas unaries seeds)
      ≤ length (push_all w points [] formulas) + length (push_all w points [] formulas) * length unaries + length seeds
  unfolding built
  built-few =
      let base : List Atom = push_all w points [] formulas in
      let turned : List Atom = turns w points unaries base 0 (length base) in
      omega (arith, push_all-few w points turned (map constant_form seeds), turns-few w points unaries base 0 (length base), length-map seeds constant_form)

  -- the bank before the seeds grows to the whole
  pub built_grows : Grows (turns w points unaries (push_all w points [] formulas) 0 (length (push_all w points [] formulas))) (built w points formulas unaries seeds)
  unfolding built
  built_grows =
      let base : List Atom = push_all w points [] formulas in
      push_all_grows w points (turns w points unaries base 0 (length base)) (map constant_form seeds)

  -- the row of each formula is held
  pub built-formula : (i : ℕ) → i < length formulas → Holds (built w points formulas unaries seeds) (row_of w points (get_or formulas i []))
  built-formula i h =
      let base : List Atom = push_all w points [] formulas in
      let turned : List Atom = turns w points unaries base 0 (length base) in
      let row : List ℕ = row_of w points (get_or formulas i []) in
      holds_later turned (built w points formulas unaries seeds) row built_grows
      (holds_later base turned row (turns_grows w points unaries base 0 (length base)) (push_all-holds w points [] formulas i h))

  -- so is that of each unary token after each base atom's formula at its turn
  pub built-turn : (k i : ℕ) → k < length (push_all w points [] formulas) → i < length unaries
      → Holds (built w points formulas unaries seeds) (row_of w points ((get_or (turns w points unaries (push_all w points [] formulas) 0 k) k no_atom).form ++ (get_or unaries i Bad ∷ [])))
  built-turn k i h l =
      let base : List Atom = push_all w points [] formulas in
      let e : 0 + k ≡ k = omega arith in
      holds_later (turns w points unaries base 0 (length base)) (built w points formulas unaries seeds) _ built_grows
      (rw e at (turns_hold w points unaries base 0 (length base) k i h l))

  -- and that of each seed
  pub built_seed : (i : ℕ) → i < length seeds → Holds (built w points formulas unaries seeds) (row_of w points (Constant (get_or seeds i 0) ∷ []))
  unfolding built
  built_seed i h =
      let base : List Atom = push_all w points [] formulas in
      let turned : List Atom = turns w points unaries base 0 (length base) in
      subst (λ (ts : List Token). Holds (push_all w points turned (map constant_form seeds)) (row_of w points ts)) (get_d_map constant_form seeds i 0 [] h)
      (push_all-holds w points turned (map constant_form seeds) i (omega (arith, length-map seeds constant_form)))
