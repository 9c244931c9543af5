-- What holds of every bank that 01's build gives, as types; proofs/ has their proofs. Assumes nothing.
use Rattle.std.specs.Prelude.{◌≡◌, true, List, [], ◌∷◌, ◌++◌, ℕ, ◌≤◌, ◌<◌, length, get_or}
use Rattle.limits.specs.Limits.{atoms_max}
use Rattle.expr.specs.declared.Token.TheVariants.{Constant, Not, Neg}
use Rattle.expr.specs.Formula.{is_formula}
use Rattle.expr_cost.specs.Cost.{cost_of}
use Rattle.probe_points.specs.declared.Point.{Point}
use Rattle.probe.specs.FormulaRow.{row_of}
use Rattle.bank_spec.specs.Push.{Atom, no_atom, push_all, turns}
use Rattle.bank_spec.specs.Stock.{stock}
use Rattle.bank_spec.specs.Bank.{seeds_of, bank_of}

-- some atom of the bank has the row
pub record Holds (bank : List Atom) (row : List ℕ) : Type 0 where
  pub slot : ℕ
  pub below : slot < length bank
  pub same : (get_or bank slot no_atom).row ≡ row

-- 01, Bank, of one atom: its row is its formula's row at the points, its cost the formula's cost, and the formula passes the test
pub record SoundAtom (nv w : ℕ) (points : List Point) (a : Atom) : Type 0 where
  pub row : a.row ≡ row_of w points a.form
  pub cost : a.cost ≡ cost_of a.form
  pub formula : is_formula nv a.form ≡ true

-- 01, Bank: at most 479 atoms, each of weighted size at most 6 and so of at most 6 tokens; no two share a row
pub record SoundBank (nv w : ℕ) (points : List Point) (bank : List Atom) : Type 0 where
  pub few : length bank ≤ atoms_max
  pub atom : (k : ℕ) → k < length bank → SoundAtom nv w points (get_or bank k no_atom)
  pub size : (k : ℕ) → k < length bank → (get_or bank k no_atom).cost.size ≤ 6
  pub tokens : (k : ℕ) → k < length bank → length (get_or bank k no_atom).form ≤ 6
  pub distinct : (i j : ℕ) → i < j → j < length bank → (get_or bank i no_atom).row ≡ (get_or bank j no_atom).row → ⊥

-- the bank after the stock, and before the turn of slot k
abbrev pub base_of : ℕ → ℕ → List Point → List Atom
base_of nv w points = push_all w points [] (stock nv w)

abbrev pub before_turn : ℕ → ℕ → List Point → ℕ → List Atom
before_turn nv w points k = turns w points (Neg ∷ (Not ∷ [])) (base_of nv w points) 0 k

-- nothing that was pushed is lost: the row of each stock formula, of Neg and Not of each base atom's formula at its turn, and of each seed is held
pub record Complete (nv w : ℕ) (points : List Point) (target : List ℕ) : Type 0 where
  pub stocked : (i : ℕ) → i < length (stock nv w) → Holds (bank_of nv w points target) (row_of w points (get_or (stock nv w) i []))
  pub negated : (k : ℕ) → k < length (base_of nv w points) → Holds (bank_of nv w points target) (row_of w points ((get_or (before_turn nv w points k) k no_atom).form ++ (Neg ∷ [])))
  pub inverted : (k : ℕ) → k < length (base_of nv w points) → Holds (bank_of nv w points target) (row_of w points ((get_or (before_turn nv w points k) k no_atom).form ++ (Not ∷ [])))
  pub seeded : (i : ℕ) → i < length (seeds_of target) → Holds (bank_of nv w points target) (row_of w points (Constant (get_or (seeds_of target) i 0) ∷ []))

-- ---- the facts, for every width, list of points and target; the first for every count of variables that is not refused
abbrev pub BankIsSound : Type 0
BankIsSound = (nv w : ℕ) (points : List Point) (target : List ℕ) → 1 ≤ nv → nv ≤ 6 → SoundBank nv w points (bank_of nv w points target)

abbrev pub BankIsComplete : Type 0
BankIsComplete = (nv w : ℕ) (points : List Point) (target : List ℕ) → Complete nv w points target

-- each row has a word for each point
abbrev pub BankIsWide : Type 0
BankIsWide = (nv w : ℕ) (points : List Point) (target : List ℕ) (k : ℕ) → k < length (bank_of nv w points target) → length (get_or (bank_of nv w points target) k no_atom).row ≡ length points
