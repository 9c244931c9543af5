-- 02, 2.1, sums and xors: what is shown completes to the target, and "nothing" is true. The statements; proofs/ has their proofs. Assumes nothing.
use Rattle.std.specs.Prelude.{◌≡◌, false, List, ◌⊎◌, ◌↔◌, ℕ, ◌%◌, ◌^◌, ◌≤◌, ◌<◌, length, get_or}
use Rattle.std.proofs.Math.Option.{Option, none, some}
use Rattle.arrays.specs.Parts.{part_at}
use Rattle.limits.specs.Refusal.{answer}
use Rattle.row_gates.specs.Gates.{gate_of, gate_row}
use Rattle.row_gates.specs.declared.Gate.{Gate}
use Rattle.row_gates.specs.declared.Gate.TheVariants.{Xor, Add}
use Rattle.index_order.specs.Order.{order_of}
use Rattle.search_product_forms.specs.Forms.{Forms}
use Rattle.search_product_forms.specs.Refusals.{short_forms, bad_atoms, bad_pairs}
use Rattle.search_product.specs.Answer.{search_refusal}
use Rattle.search_product.specs.Demand.{BuiltBank, OwnIndex, Uncut}
use Rattle.search_residual_trial.specs.Trying.{Completion}
use Rattle.search_residual.specs.Answer.{residual_refusal, completion}

-- ---- terms of 02, 2.1; an atom stands for its row
-- either outer gate
abbrev pub Outer : Gate → Type 0
Outer outer = (outer ≡ Xor) ⊎ (outer ≡ Add)

-- row a with row b, under an outer gate, gives the target: in all sixteen places
abbrev pub Gives : Gate → ℕ → List ℕ → List ℕ → List ℕ → Type 0
Gives outer w target a b = (j : ℕ) → j < 16 → gate_of outer w (get_or a j 0) (get_or b j 0) ≡ get_or target j 0

-- bank rows below 2^w
abbrev pub RowsBelow : ℕ → ℕ → List ℕ → Type 0
RowsBelow w count atoms = (a j : ℕ) → a < count → j < 16 → get_or (part_at 16 atoms a) j 0 < 2 ^ w

-- an atom that is 0 modulo 2^w in all sixteen places
pub record ZeroAtom (w count : ℕ) (atoms : List ℕ) : Type 0 where
  pub slot : ℕ
  pub below : slot < count
  pub zeros : (j : ℕ) → j < 16 → get_or (part_at 16 atoms slot) j 0 % 2 ^ w ≡ 0

-- no atoms a, b, c and gate g give the target as a with b, or as a with (b g c), under either outer gate
pub record NoResidual (w count : ℕ) (atoms target : List ℕ) : Type 0 where
  pub of_two : (outer : Gate) → Outer outer → (a b : ℕ) → a < count → b < count
      → Gives outer w target (part_at 16 atoms a) (part_at 16 atoms b) → ⊥
  pub of_gate : (outer : Gate) → Outer outer → (g : Gate) (a b c : ℕ) → a < count → b < count → c < count
      → Gives outer w target (part_at 16 atoms a) (gate_row g w (part_at 16 atoms b) (part_at 16 atoms c)) → ⊥

-- an outer gate, one of the atoms, and one of the first m rows, which give the target
pub record Parts (w count : ℕ) (atoms : List ℕ) (m : ℕ) (rows target : List ℕ) (outer : Gate) (a part : ℕ) : Type 0 where
  pub gate : Outer outer
  pub atom : a < count
  pub within : part < m
  pub gives : Gives outer w target (part_at 16 atoms a) (part_at 16 rows part)

-- what is shown completes to the target: its atom with the other atom, or with the pair
abbrev pub Completes : ℕ → ℕ → List ℕ → ℕ → List ℕ → List ℕ → Completion → Type 0
Completes w count atoms n listed target (Completion.of_atoms outer a b) = Parts w count atoms count atoms target outer a b
Completes w count atoms n listed target (Completion.of_pair outer a s) = Parts w count atoms n listed target outer a s

-- ---- the statements
-- what is shown completes to the target, on whatever bank and index are lent: their words may reach 2^w
abbrev pub ShownCompletes : Type 0
ShownCompletes =
    (w count : ℕ) (atoms : List ℕ) (n : ℕ) (listed target : List ℕ) (shown : Completion) → length target ≡ 16
    → completion w count atoms n listed target ≡ answer (some shown)
    → Completes w count atoms n listed target shown

-- "nothing" is true, for every lent bank with rows below 2^w, built or not. The search reads no order list: `order` is that of the index, as demand 3 has it
abbrev pub NothingCompletes : Type 0
NothingCompletes =
    (w count : ℕ) (atoms : List ℕ) (L n : ℕ) (listed order target : List ℕ) (found : Option Completion)
    → RowsBelow w count atoms → OwnIndex w count atoms L n listed order → Uncut w count atoms L → length target ≡ 16
    → completion w count atoms n listed target ≡ answer found
    → (found ≡ none) ↔ NoResidual w count atoms target

-- 02, 2.1: "Nothing" must be true. With an uncut index as demand 3 has it, on a built bank, and bank rows below 2^w, the search finds nothing exactly when no atoms a, b, c
-- and gate g give the target as a with b, or as a with (b g c), under either outer gate
abbrev pub SumsAndXors : Type 0
SumsAndXors =
    (w count : ℕ) (atoms : List ℕ) (L n : ℕ) (listed order target : List ℕ) (found : Option Completion)
    → BuiltBank count atoms → RowsBelow w count atoms → OwnIndex w count atoms L n listed order → Uncut w count atoms L → length target ≡ 16
    → completion w count atoms n listed target ≡ answer found
    → (found ≡ none) ↔ NoResidual w count atoms target

-- 02, 2.3: Xor reduces, so that an atom of zeros gives every atom's row reduced. With one, "nothing" is true of every lent bank, its words may reach 2^w
abbrev pub NothingWithZero : Type 0
NothingWithZero =
    (w count : ℕ) (atoms : List ℕ) (L n : ℕ) (listed order target : List ℕ) (found : Option Completion)
    → ZeroAtom w count atoms → OwnIndex w count atoms L n listed order → Uncut w count atoms L → length target ≡ 16
    → completion w count atoms n listed target ≡ answer found
    → (found ≡ none) ↔ NoResidual w count atoms target

-- every built bank has one at every width, the constant 0
abbrev pub BuiltHasZero : Type 0
BuiltHasZero = (w count : ℕ) (atoms : List ℕ) → BuiltBank count atoms → ZeroAtom w count atoms

-- so on a built bank with an uncut index of its own "nothing" is true, whatever the width that the bank was built at
abbrev pub NothingOnBuilt : Type 0
NothingOnBuilt =
    (w count : ℕ) (atoms : List ℕ) (L n : ℕ) (listed order target : List ℕ) (found : Option Completion)
    → BuiltBank count atoms → OwnIndex w count atoms L n listed order → Uncut w count atoms L → length target ≡ 16
    → completion w count atoms n listed target ≡ answer found
    → (found ≡ none) ↔ NoResidual w count atoms target

-- bank rows below 2^w: those of a bank built at the width of the search, or at a smaller one
abbrev pub BuiltRowsBelow : Type 0
BuiltRowsBelow = (w count : ℕ) (atoms : List ℕ) (built : BuiltBank count atoms) → built.w ≤ w → RowsBelow w count atoms

-- 02, 2.1: it turns back as the product search does that is lent the right order list and, since 02, 2.4, formulas and pairs that pass
abbrev pub TurnsBackAlike : Type 0
TurnsBackAlike =
    (w count : ℕ) (atoms : List ℕ) (n : ℕ) (listed target : List ℕ) (f : Forms)
    → short_forms count n f ≡ false → bad_atoms count f ≡ false → bad_pairs count n f ≡ false
    → residual_refusal w count atoms n listed target ≡ search_refusal w count atoms n listed (order_of n listed) target f
