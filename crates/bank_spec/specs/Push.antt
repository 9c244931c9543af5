-- The bank as a list of atoms, in slot order. "Bank" and "atom" are 01's terms: an atom is a small formula with its cost and its row. Assumes nothing.
use Rattle.std.specs.Prelude.{true, false, List, [], ◌∷◌, ◌++◌, map, ℕ, zero, suc, length, get_or}
use Rattle.row_gates.specs.Gates.{same_row}
use Rattle.expr.specs.declared.Token.{Token}
use Rattle.expr.specs.declared.Token.TheVariants.{Constant}
use Rattle.expr_cost.specs.declared.Cost.{Cost}
use Rattle.expr_cost.specs.Cost.{no_cost, cost_of, is_better}
use Rattle.probe_points.specs.declared.Point.{Point}
use Rattle.probe.specs.FormulaRow.{row_of}

-- 01, From heap ..: per atom its formula, its cost and its row
pub record Atom : Type 0 where
  pub form : List Token
  pub cost : Cost
  pub row : List ℕ

-- what a formula is as an atom: its cost, and its row at the points
unfoldable pub atom_of : ℕ → List Point → List Token → Atom
unfolding row_of
atom_of w points ts = record { form = ts; cost = cost_of ts; row = row_of w points ts }

-- what stands past the bank's end
abbrev pub no_atom : Atom
no_atom = record { form = []; cost = no_cost; row = [] }

-- 01, Bank: a row already held replaces that slot's formula and cost exactly if strictly better; a new row gets the next slot
unfoldable pub push : List Atom → Atom → List Atom
unfolding same_row is_better
push [] a = a ∷ []
push (b ∷ bank) a =
    elim (same_row b.row a.row) [
      | true ↦ elim (is_better a.cost b.cost) [ true ↦ a ∷ bank | false ↦ b ∷ bank ]
      | false ↦ b ∷ push bank a
    ]

-- a list of formulas, one after the other
unfoldable pub push_all : ℕ → List Point → List Atom → List (List Token) → List Atom
unfolding push atom_of
push_all w points bank [] = bank
push_all w points bank (ts ∷ more) = push_all w points (push bank (atom_of w points ts)) more

-- 01, Bank: one atom's turn, Neg and Not of its formula as it is when its turn comes. `unaries` are these two tokens
unfoldable pub turn : ℕ → List Point → List Token → List Atom → ℕ → List Atom
unfolding push_all
turn w points unaries bank k = push_all w points bank (map (λ (u : Token). (get_or bank k no_atom).form ++ (u ∷ [])) unaries)

-- 01, Bank: for each of n atoms from slot k on, in slot order
unfoldable pub turns : ℕ → List Point → List Token → List Atom → ℕ → ℕ → List Atom
unfolding turn
turns w points unaries bank k zero = bank
turns w points unaries bank k (suc n) = turns w points unaries (turn w points unaries bank k) (suc k) n

-- a bank build over any list of formulas, unary tokens and seeds: first the formulas; then a turn for each of the atoms present at that moment; then the seeds
unfoldable pub built : ℕ → List Point → List (List Token) → List Token → List ℕ → List Atom
unfolding push_all turns
built w points formulas unaries seeds =
    let base : List Atom = push_all w points [] formulas in
    push_all w points (turns w points unaries base 0 (length base)) (map (λ (v : ℕ). Constant v ∷ []) seeds)
