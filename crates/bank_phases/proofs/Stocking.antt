-- Laws of the stock, the seeds and the whole build, over the arrays' contents. Each loop keeps a record: the arrays hold the atoms so far, and what is left to push makes
-- of them the phase's bank. Assumes nothing.
use mathlib.Core.Path.{◌≡◌, refl, sym, ap, ◌∙◌, subst}
use mathlib.Core.Bool.{true, false}
use mathlib.Core.List.{List, [], ◌∷◌, ◌++◌, map}
use Prim.Native.Nat.{ℕ, suc, ◌+◌, ◌≤◌, ◌<◌}
use native.Mathlib.Numerals.{add-one}
use native.Mathlib.Omega.{arith}
use lib.ListN.{length, get_or, take}
use lib.Seq.{take-suc}
use Rattle.expr.specs.declared.Token.{Token}
use Rattle.expr.specs.declared.Token.TheVariants.{Constant}
use Rattle.probe_points.specs.declared.Point.{Point}
use Rattle.bank_spec.specs.Push.{Atom, atom_of, push, push_all, built}
use Rattle.bank_spec.specs.Encoding.{Arrays}
use Rattle.bank_spec.specs.Stock.{stock}
use Rattle.bank_spec.specs.Bank.{seeds_of, bank_of}
use Rattle.bank_spec.specs.Facts.{base_of}
use Rattle.bank_spec.proofs.Encodings.{written_none}
use Rattle.bank_spec.proofs.Pushes.{push_all_snoc}
use Rattle.bank_spec.proofs.Growth.{push_all_grows, turns_grows, built_grows}
use Rattle.bank_spec.proofs.Banks.{base_few, before-turn-few}
use Rattle.bank_stock.specs.declared.Cursor.{Cursor}
use Rattle.bank_atom.specs.declared.Entry.{Entry}
use Rattle.bank_atom.specs.declared.Seeds.{Seeds}
use Rattle.bank_atom.specs.Entry.{entry_of, IsConstant}
use Rattle.bank_stock.specs.Cursor.{Stands, form_of, next_of, first_of, is_done, rest_of}
use Rattle.bank_atom.specs.Seeding.{AreSeeds}
use Rattle.bank_stock.proofs.Walk.{first_rest, first-stands, next-stands, next-rest, done-rest}
use Rattle.bank_push.specs.Steps.{Ready, IsBank, Pushed}
use Rattle.bank_unary.specs.Phases.{Asked, Holding, Phase, turned_of}
use Rattle.bank_unary.proofs.Phasing.{phase_on}
use Rattle.bank_unary.proofs.Turning.{unaries}

-- ---- the stock
-- at a place of the stock: the formulas from there on, pushed into the atoms so far, give the bank after the stock
pub record Stocking (old a : Arrays) (work : List ℕ) (nv w : ℕ) (points : List Point) (n : ℕ) (at : Cursor) : Type 0 where
  pub atoms : List Atom
  pub stands : Stands nv at
  pub ready : Ready a work n
  pub bank : IsBank old a n atoms
  pub rest : push_all w points atoms (rest_of nv w at) ≡ base_of nv w points

module _ (old a : Arrays) (work : List ℕ) (nv w : ℕ) (points : List Point) (n : ℕ) (at : Cursor) where
  -- there is room for a push
  pub stocking_few : Stocking old a work nv w points n at → n < 479
  stocking_few s =
      let g : length s.atoms ≤ length (base_of nv w points) = subst (λ (l : List Atom). length s.atoms ≤ length l) s.rest (push_all_grows w points s.atoms (rest_of nv w at)).longer in
      omega (arith, g, s.bank.count, base_few nv w points s.stands.most)

  -- nothing of the stock is left
  pub stocking_done : is_done at ≡ true → Stocking old a work nv w points n at → Phase old a work n (base_of nv w points)
  unfolding push_all
  stocking_done d s =
      let e : s.atoms ≡ base_of nv w points = ap (push_all w points s.atoms) (sym (done-rest nv w at d)) ∙ s.rest in
      record { ready = s.ready; bank = subst (λ (l : List Atom). IsBank old a n l) e s.bank }

  -- one formula fewer is left
  pub stocking_less : (next : Cursor) → is_done at ≡ false → Stands nv at → next ≡ next_of nv at → length (rest_of nv w next) < length (rest_of nv w at)
  stocking_less next d s e =
      let f : length (rest_of nv w at) ≡ suc (length (rest_of nv w next)) =
      ap length (next-rest nv w at s d) ∙ ap (λ (c : Cursor). suc (length (rest_of nv w c))) (sym e) in
      omega (arith, f)

  -- the formula at the place is pushed, and the cursor goes on
  pub stocking_more : (a' : Arrays) (work' : List ℕ) (e : Entry) (next : Cursor) (r : ℕ) → is_done at ≡ false → e ≡ entry_of (atom_of w points (form_of w at)) → next ≡ next_of nv at
      → Pushed a a' work' n e r → Stocking old a work nv w points n at → Stocking old a' work' nv w points r next
  unfolding push_all
  stocking_more a' work' e next r d is q p s = record {
    atoms = push s.atoms (atom_of w points (form_of w at));
    stands = subst (λ (c : Cursor). Stands nv c) (sym q) (next-stands nv at s.stands);
    ready = p.ready;
    bank = p.bank old s.atoms (atom_of w points (form_of w at)) is s.bank;
    rest =
        ap (λ (c : Cursor). push_all w points (push s.atoms (atom_of w points (form_of w at))) (rest_of nv w c)) q
        ∙ ap (push_all w points s.atoms) (sym (next-rest nv w at s.stands d))
        ∙ s.rest;
  }

-- no atom is held yet
empty-bank : (a : Arrays) → IsBank a a 0 []
empty-bank a = record { count = refl; arrays = sym (written_none a); wide = λ k l. absurd (omega arith); distinct = λ i j l m. absurd (omega arith) }

-- before the first push
pub stocking_none : (a : Arrays) (work : List ℕ) (nv w : ℕ) (points : List Point) (at : Cursor) → Asked nv w → at ≡ first_of → Ready a work 0
    → Stocking a a work nv w points 0 at
stocking_none a work nv w points at k e r = record {
  atoms = [];
  stands = subst (λ (c : Cursor). Stands nv c) (sym e) (first-stands nv k.least k.most);
  ready = r;
  bank = empty-bank a;
  rest = ap (λ (c : Cursor). push_all w points [] (rest_of nv w c)) e ∙ ap (push_all w points []) (first_rest nv w);
}

-- ---- the seeds
-- the formula of a seed
abbrev seed_form : ℕ → List Token
seed_form v = Constant v ∷ []

-- one seed more at the end
seeds_snoc : (vs : List ℕ) (v : ℕ) → map seed_form (vs ++ (v ∷ [])) ≡ map seed_form vs ++ (seed_form v ∷ [])
seeds_snoc [] v = refl
seeds_snoc (x ∷ vs) v = ap (λ (l : List (List Token)). seed_form x ∷ l) (seeds_snoc vs v)

-- before seed i: whatever bank was there before the seeds, the arrays hold it with the first i of them pushed
pub record Sowing (old a : Arrays) (work : List ℕ) (w turned : ℕ) (seeds : Seeds) (n i : ℕ) : Type 0 where
  pub few : n ≤ turned + i
  pub ready : Ready a work n
  pub bank : (points : List Point) (atoms : List Atom) → length points ≡ 16 → IsBank old old turned atoms
      → IsBank old a n (push_all w points atoms (map (λ (v : ℕ). Constant v ∷ []) (take i seeds.words)))

-- at most 3 × 157 atoms before the seeds
pub turned_few : (nv w : ℕ) (points : List Point) (a : Arrays) (work : List ℕ) (n : ℕ) → Asked nv w → Holding a work n (turned_of nv w points) → n ≤ 471
turned_few nv w points a work n asked h =
    omega (arith, h.bank.count, before-turn-few nv w points (length (base_of nv w points)) (omega arith), base_few nv w points asked.most)

module _ (w turned : ℕ) (seeds : Seeds) (old a : Arrays) (work : List ℕ) (n i : ℕ) where
  -- before the first seed
  pub sowing_none : Ready a work turned → Sowing a a work w turned seeds turned 0
  unfolding push_all
  sowing_none r = record { few = omega arith; ready = r; bank = λ points atoms l b. b }

  -- one seed pushed
  pub sowing_more : (a' : Arrays) (work' : List ℕ) (e : Entry) (r : ℕ) → i < length seeds.words → IsConstant w (get_or seeds.words i 0) e
      → Pushed a a' work' n e r → Sowing old a work w turned seeds n i → Sowing old a' work' w turned seeds r (i + 1)
  sowing_more a' work' e r l c p s = record { few = omega (arith, s.few, p.few); ready = p.ready; bank = bank' }
    where
      bank' : (points : List Point) (atoms : List Atom) → length points ≡ 16 → IsBank old old turned atoms
          → IsBank old a' r (push_all w points atoms (map seed_form (take (i + 1) seeds.words)))
      bank' points atoms long b =
          let so : List Atom = push_all w points atoms (map seed_form (take i seeds.words)) in
          let v : ℕ = get_or seeds.words i 0 in
          subst (λ (z : List Atom). IsBank old a' r z)
          (sym
          (ap (λ (m : ℕ). push_all w points atoms (map seed_form (take m seeds.words))) (add-one i)
          ∙ ap (λ (z : List ℕ). push_all w points atoms (map seed_form z)) (take-suc seeds.words i 0 l)
          ∙ ap (push_all w points atoms) (seeds_snoc (take i seeds.words) v)
          ∙ push_all_snoc w points atoms (map seed_form (take i seeds.words)) (seed_form v)))
          (p.bank old so (atom_of w points (seed_form v)) (c.is points long) (s.bank points atoms long b))

  -- all seeds are pushed
  pub sowing_done : (nv : ℕ) (points : List Point) (target old_work : List ℕ) → AreSeeds target seeds → i ≡ seeds.count → length points ≡ 16
      → Holding old old_work turned (turned_of nv w points) → Sowing old a work w turned seeds n i → Phase old a work n (bank_of nv w points target)
  unfolding bank_of built
  sowing_done nv points target old_work are e long h s = record {
    ready = s.ready;
    bank = subst (λ (z : List ℕ). IsBank old a n (push_all w points (turned_of nv w points) (map seed_form z))) (ap (λ (m : ℕ). take m seeds.words) e ∙ are.are)
        (s.bank points (turned_of nv w points) long h.bank);
  }

-- ---- the phases one after the other
-- the bank over what the arrays held before the stock
pub build_on : (nv w : ℕ) (points : List Point) (target : List ℕ) (a₀ a₁ a₂ a₃ : Arrays) (work₁ work₂ work₃ : List ℕ) (base turned r : ℕ)
    → Phase a₀ a₁ work₁ base (base_of nv w points) → Phase a₁ a₂ work₂ turned (turned_of nv w points) → Phase a₂ a₃ work₃ r (bank_of nv w points target)
    → Phase a₀ a₃ work₃ r (bank_of nv w points target)
unfolding bank_of
build_on nv w points target a₀ a₁ a₂ a₃ work₁ work₂ work₃ base turned r p q s =
    phase_on a₀ a₂ a₃ work₂ work₃ turned r (turned_of nv w points) (bank_of nv w points target) (built_grows w points (stock nv w) unaries (seeds_of target)).longer
    (phase_on a₀ a₁ a₂ work₁ work₂ base turned (base_of nv w points) (turned_of nv w points)
    (turns_grows w points unaries (base_of nv w points) 0 (length (base_of nv w points))).longer p q) s
