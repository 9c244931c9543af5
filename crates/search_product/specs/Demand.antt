-- Demand 3, "nothing" is true: the statements. proofs/Nothing has their proofs. Assumes nothing.
use Rattle.std.specs.Prelude.{◌≡◌, List, Result, ◌↔◌, ℕ, ◌*◌, ◌%◌, ◌^◌, ◌≤◌, ◌<◌, length, get_or, take}
use Rattle.std.proofs.Math.Option.{Option, none}
use Rattle.arrays.specs.Parts.{part_at, encode}
use Rattle.limits.specs.Refusal.{says, answer}
use Rattle.limits.specs.declared.Refusal.{Refusal}
use Rattle.row_gates.specs.Gates.{gate_row}
use Rattle.row_gates.specs.declared.Gate.{Gate}
use Rattle.probe_points.specs.declared.Point.{Point}
use Rattle.bank_spec.specs.Encoding as Bank
use Rattle.bank.specs.Build.{BankBuilt}
use Rattle.index_spec.specs.Index.{rows_of, all_gates, all_pairs}
use Rattle.index_spec.specs.Encoding.{pair_row}
use Rattle.index.specs.Build.{order_list, lent_index}
use Rattle.search_product_forms.specs.Forms.{Forms}
use Rattle.search_product_trial.specs.Trying.{Product}
use Rattle.search_product.specs.Answer.{product}

-- ---- what a product is, in demand 3's words; an atom stands for its row
-- equal to the target modulo 2^w in all sixteen places
abbrev pub Equal : ℕ → List ℕ → List ℕ → List ℕ → Type 0
Equal w target a b = (j : ℕ) → j < 16 → get_or a j 0 * get_or b j 0 % 2 ^ w ≡ get_or target j 0 % 2 ^ w

-- no gate g and atoms a, b, c have a × b or a × (b g c) equal to the target
pub record NoProduct (w count : ℕ) (atoms target : List ℕ) : Type 0 where
  pub of_two : (a b : ℕ) → a < count → b < count → Equal w target (part_at 16 atoms a) (part_at 16 atoms b) → ⊥
  pub of_gate : (g : Gate) (a b c : ℕ) → a < count → b < count → c < count
      → Equal w target (part_at 16 atoms a) (gate_row g w (part_at 16 atoms b) (part_at 16 atoms c)) → ⊥

-- ---- 01, Built means
-- the bank's count and rows are as a bank build that wasn't turned back left them, whatever its points, target and width
pub record BuiltBank (count : ℕ) (atoms : List ℕ) : Type 0 where
  pub nv : ℕ
  pub w : ℕ
  pub points : List Point
  pub target : List ℕ
  pub old : Bank.Arrays
  pub left : Bank.Arrays
  pub old_work : List ℕ
  pub left_work : List ℕ
  pub r : Result ℕ Refusal
  pub build : BankBuilt nv w points target old left old_work left_work r
  pub says : says r ≡ answer count
  pub rows_are : left.rows ≡ atoms

-- an index of its own: count, rows and order list are as an index build that wasn't turned back left them, given that bank as the search gets it and the
-- search's width: `BuiltIsOwn` of Own says so of every build
pub record OwnIndex (w count : ℕ) (atoms : List ℕ) (L n : ℕ) (listed order : List ℕ) : Type 0 where
  pub count-is : n ≡ length (lent_index w count atoms L).pairs
  pub rows_are : take (16 * n) listed ≡ encode pair_row (lent_index w count atoms L).pairs
  pub order_is : take n order ≡ order_list (lent_index w count atoms L).pairs

-- uncut: the rows that this build's gates give over the bank's atoms, in its trials, and that the bank doesn't hold, each counted once, are at most L. And and
-- Or of an atom with itself are not tried and not counted; they give that atom's row, modulo 2^w
abbrev pub Uncut : ℕ → ℕ → List ℕ → ℕ → Type 0
Uncut w count atoms L = length (all_pairs w all_gates (rows_of count atoms)) ≤ L

-- ---- the statements
-- for every lent bank, built or not, whatever formulas and pairs' words are lent with its rows
abbrev pub NothingExactly : Type 0
NothingExactly =
    (w count : ℕ) (atoms : List ℕ) (L n : ℕ) (listed order target : List ℕ) (f : Forms) (found : Option Product)
    → OwnIndex w count atoms L n listed order → Uncut w count atoms L → length target ≡ 16
    → product w count atoms n listed order target f ≡ answer found
    → (found ≡ none) ↔ NoProduct w count atoms target

-- demand 3: for every input of the product search that is not turned back, on a built bank with an uncut index of its own it finds nothing exactly when no
-- gate g and atoms a, b, c have a × b or a × (b g c) equal to the target in all sixteen places
abbrev pub DemandThree : Type 0
DemandThree =
    (w count : ℕ) (atoms : List ℕ) (L n : ℕ) (listed order target : List ℕ) (f : Forms) (found : Option Product)
    → BuiltBank count atoms → OwnIndex w count atoms L n listed order → Uncut w count atoms L → length target ≡ 16
    → product w count atoms n listed order target f ≡ answer found
    → (found ≡ none) ↔ NoProduct w count atoms target
