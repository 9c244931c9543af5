-- Laws of the turns: one atom's turn, and one turn more. Assumes nothing.
use mathlib.Core.Path.{◌≡◌, sym, ap, ◌∙◌, subst}
use mathlib.Core.List.{List, [], ◌∷◌, ◌++◌}
use Prim.Native.Nat.{ℕ, ◌+◌, ◌<◌}
use native.Mathlib.Omega.{arith}
use lib.ListN.{length, get_or}
use Rattle.expr.specs.declared.Token.{Token}
use Rattle.expr.specs.declared.Token.TheVariants.{Not, Neg}
use Rattle.expr_cost.specs.Cost.{Roomy}
use Rattle.expr_cost.proofs.Formulas.{cost_roomy}
use Rattle.probe_points.specs.declared.Point.{Point}
use Rattle.bank_spec.specs.Push.{Atom, no_atom, atom_of, push, turn}
use Rattle.bank_spec.specs.Encoding.{Arrays}
use Rattle.bank_spec.specs.Facts.{base_of, before_turn}
use Rattle.bank_spec.proofs.Pushes.{turns-none, turns_next, turn_two}
use Rattle.bank_spec.proofs.Growth.{turn_grows, turns_grows}
use Rattle.bank_spec.proofs.Soundness.{Fine}
use Rattle.bank_spec.proofs.Banks.{fine_tokens, base_few, before-turn-few, before-turn-small}
use Rattle.bank_atom.specs.declared.Entry.{Entry}
use Rattle.bank_atom.specs.declared.Unary.TheVariants as U
use Rattle.bank_atom.specs.Entry.{entry_of, Extends, UnderUnary}
use Rattle.bank_parts.specs.Parts.{Loaded}
use Rattle.bank_push.specs.Steps.{IsBank, Pushed}
use Rattle.bank_unary.specs.Phases.{Asked, Holding, Phase}
use Rattle.bank_unary.proofs.Phasing.{phase_on}

-- ---- one atom's turn
-- Neg, then Not
abbrev pub unaries : List Token
unaries = Neg ∷ (Not ∷ [])

module _ (nv w : ℕ) (points : List Point) (k : ℕ) (below : k < length (base_of nv w points)) (asked : Asked nv w) where
  -- the bank when the turn comes, and its atom there
  abbrev bank : List Atom
  bank = before_turn nv w points k

  abbrev atom : Atom
  atom = get_or bank k no_atom

  abbrev form : List Token
  form = atom.form

  -- the slot is below the count
  held : k < length bank
  held = omega (arith, below, (turns_grows w points unaries (base_of nv w points) 0 k).longer)

  -- its atom is sound and of size at most 5
  fine : Fine nv w points 5 atom
  fine = before-turn-small nv w points k (omega (arith, below)) k below

  -- it is its formula's
  own : atom ≡ atom_of w points form
  unfolding atom_of
  own = λ i. record { form = form; cost = fine.sound.cost i; row = fine.sound.row i }

  -- the slot is one of 479
  pub turn-slot : k < 479
  turn-slot = omega (arith, below, base_few nv w points asked.most)

  -- there is room for both pushes
  pub turn-room : (a : Arrays) (work : List ℕ) (n : ℕ) → Holding a work n bank → n + 1 < 479
  turn-room a work n h = omega (arith, h.bank.count, below, before-turn-few nv w points k (omega (arith, below)), base_few nv w points asked.most)

  module _ (a : Arrays) (work : List ℕ) (n : ℕ) (h : Holding a work n bank) (e : Entry) (loaded : Loaded a k e) where
    -- what was loaded is that atom
    is : e ≡ entry_of atom
    is = loaded.entry a bank h.bank.arrays held (h.bank.wide k held)

    is_own : e ≡ entry_of (atom_of w points form)
    is_own = is ∙ ap entry_of own

    -- at most five tokens, and a cost far from 32 bits
    pub turn_extends : Extends w e
    turn_extends = record {
      width = asked.width;
      room = let q : e.text.len ≡ length form = ap (λ (z : Entry). z.text.len) is in omega (arith, q, fine_tokens nv w points 5 atom fine);
      cost = subst Roomy (sym (ap (λ (z : Entry). z.cost) is ∙ fine.sound.cost)) (cost_roomy nv form fine.sound.formula);
    }

    -- what the two pushes leave
    pub turned : (a₁ a₂ : Arrays) (work₁ work₂ : List ℕ) (x y : Entry) (m r : ℕ) → UnderUnary w U.Neg e x → UnderUnary w U.Not e y
        → Pushed a a₁ work₁ n x m → Pushed a₁ a₂ work₂ m y r → Phase a a₂ work₂ r (turn w points (Neg ∷ (Not ∷ [])) bank k)
    turned a₁ a₂ work₁ work₂ x y m r nx ny px py =
        let ex : x ≡ entry_of (atom_of w points (form ++ (Neg ∷ []))) = nx.is nv points form fine.sound.formula is_own in
        let ey : y ≡ entry_of (atom_of w points (form ++ (Not ∷ []))) = ny.is nv points form fine.sound.formula is_own in
        let one : IsBank a a₁ m (push bank (atom_of w points (form ++ (Neg ∷ [])))) = px.bank a bank (atom_of w points (form ++ (Neg ∷ []))) ex h.bank in
        record {
          ready = py.ready;
          bank = subst (λ (l : List Atom). IsBank a a₂ r l) (sym (turn_two w points Neg Not bank k))
              (py.bank a (push bank (atom_of w points (form ++ (Neg ∷ [])))) (atom_of w points (form ++ (Not ∷ []))) ey one);
        }

-- ---- the turns
module _ (nv w : ℕ) (points : List Point) (old a : Arrays) (work : List ℕ) (n k : ℕ) where
  -- before the first turn
  pub turns-first : Holding a work n (base_of nv w points) → Phase a a work n (before_turn nv w points 0)
  turns-first h = record {
    ready = h.ready;
    bank = subst (λ (l : List Atom). IsBank a a n l) (sym (turns-none w points unaries (base_of nv w points) 0)) h.bank;
  }

  -- one turn more
  pub turns-further : (a' : Arrays) (work' : List ℕ) (r : ℕ) → Phase old a work n (before_turn nv w points k)
      → Phase a a' work' r (turn w points (Neg ∷ (Not ∷ [])) (before_turn nv w points k) k) → Phase old a' work' r (before_turn nv w points (k + 1))
  turns-further a' work' r p q =
      subst (λ (l : List Atom). Phase old a' work' r l) (sym (turns_next w points unaries (base_of nv w points) k))
      (phase_on old a a' work work' n r (before_turn nv w points k) (turn w points unaries (before_turn nv w points k) k)
      (turn_grows w points unaries (before_turn nv w points k) k).longer p q)
