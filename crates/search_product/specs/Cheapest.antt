-- 02, 2.4: the cheapest product, not the first: the statements. proofs/Cheap has their proofs. Assumes nothing.
use Rattle.std.specs.Prelude.{◌≡◌, true, false, ◌&&◌, List, ◌∷◌, ◌++◌, ◌↔◌, ℕ, ◌<◌, length}
use Rattle.std.proofs.Math.Option.{Option, some}
use Rattle.arrays.specs.Lists.{In}
use Rattle.arrays.specs.Least.{IsLeast}
use Rattle.arrays.specs.Parts.{part_at}
use Rattle.limits.specs.Refusal.{answer}
use Rattle.row_gates.specs.Gates.{gate_at}
use Rattle.expr.specs.declared.Token.{Token}
use Rattle.expr.specs.Formula.{is_formula}
use Rattle.expr_cost.specs.Cost.{info_of, cost_of, info_gate, under_gate, is_better}
use Rattle.search_product_forms.specs.Forms.{Forms, atom_form, pair_form, pair_gate, pair_b, pair_c}
use Rattle.search_product_trial.specs.Trying.{Product, fitting, trials_of, product_form, product_cost, cheaper}
use Rattle.search_product_trial.specs.Trying.Product.{of_atoms, of_pair}
use Rattle.search_product.specs.Answer.{product}
use Rattle.search_product.specs.Demand.{Equal}

-- a product is shown
pub record Shown (found : Option Product) : Type 0 where
  pub product : Product
  pub is : found ≡ some product

-- a product of two atoms, or of an atom and a listed pair
abbrev pub Within : ℕ → ℕ → Product → Type 0
Within count n (of_atoms a b) = (a < count) × (b < count)
Within count n (of_pair a s) = (a < count) × (s < n)

-- the two rows that it multiplies; an atom stands for its row
abbrev pub left_row : List ℕ → Product → List ℕ
left_row atoms (of_atoms a b) = part_at 16 atoms a
left_row atoms (of_pair a s) = part_at 16 atoms a

abbrev pub right_row : List ℕ → List ℕ → Product → List ℕ
right_row atoms listed (of_atoms a b) = part_at 16 atoms b
right_row atoms listed (of_pair a s) = part_at 16 listed s

-- it fits, in demand 3's words: it is equal to the target modulo 2^w in all sixteen places
pub record Fits (w count : ℕ) (atoms : List ℕ) (n : ℕ) (listed target : List ℕ) (x : Product) : Type 0 where
  pub within : Within count n x
  pub equal : Equal w target (left_row atoms x) (right_row atoms listed x)

pub record SomeFits (w count : ℕ) (atoms : List ℕ) (n : ℕ) (listed target : List ℕ) : Type 0 where
  pub product : Product
  pub fits : Fits w count atoms n listed target product

-- that a product is shown exactly if one fits remains true
abbrev pub ShownExactly : Type 0
ShownExactly =
    (w count : ℕ) (atoms : List ℕ) (n : ℕ) (listed order target : List ℕ) (f : Forms) (found : Option Product)
    → length target ≡ 16 → product w count atoms n listed order target f ≡ answer found
    → Shown found ↔ SomeFits w count atoms n listed target

-- what is shown fits
abbrev pub ShownFits : Type 0
ShownFits =
    (w count : ℕ) (atoms : List ℕ) (n : ℕ) (listed order target : List ℕ) (f : Forms) (x : Product)
    → length target ≡ 16 → product w count atoms n listed order target f ≡ answer (some x) → Fits w count atoms n listed target x

-- the fitting product of least cost, by the cost order, over atom pairs and listed pairs together: none that fits is strictly better
abbrev pub NoneBetter : Type 0
NoneBetter =
    (w count : ℕ) (atoms : List ℕ) (n : ℕ) (listed order target : List ℕ) (f : Forms) (x : Product)
    → length target ≡ 16 → product w count atoms n listed order target f ≡ answer (some x)
    → (y : Product) → Fits w count atoms n listed target y → is_better (product_cost f y) (product_cost f x) ≡ false

-- x is a trial that fits, and every fitting trial before it, in 01's search order, is strictly dearer
pub record First (w count : ℕ) (atoms : List ℕ) (n : ℕ) (listed target : List ℕ) (f : Forms) (x : Product) : Type 0 where
  pub earlier : List Product
  pub later : List Product
  pub stands : trials_of w count atoms n listed target ≡ earlier ++ (x ∷ later)
  pub fits : fitting w atoms listed target x ≡ true
  pub dearer : (y : Product) → In y earlier → fitting w atoms listed target y ≡ true → is_better (product_cost f x) (product_cost f y) ≡ true

-- among equal costs, the earlier in 01's search order
abbrev pub EarlierDearer : Type 0
EarlierDearer =
    (w count : ℕ) (atoms : List ℕ) (n : ℕ) (listed order target : List ℕ) (f : Forms) (x : Product)
    → product w count atoms n listed order target f ≡ answer (some x) → First w count atoms n listed target f x

-- these leave one answer: what is shown is the least, and the least is shown
abbrev pub LeastExactly : Type 0
LeastExactly =
    (w count : ℕ) (atoms : List ℕ) (n : ℕ) (listed order target : List ℕ) (f : Forms) (found : Option Product) (x : Product)
    → product w count atoms n listed order target f ≡ answer found
    → (found ≡ some x) ↔ IsLeast (fitting w atoms listed target) (cheaper f) (trials_of w count atoms n listed target) x

-- engineers load the shortest form: what is shown, written out, passes 01's formula test with six variables
abbrev pub ShownPasses : Type 0
ShownPasses =
    (w count : ℕ) (atoms : List ℕ) (n : ℕ) (listed order target : List ℕ) (f : Forms) (x : Product)
    → product w count atoms n listed order target f ≡ answer (some x) → is_formula 6 (product_form f x) ≡ true

-- the two sides of a product, written out
abbrev pub left_side : Forms → Product → List Token
left_side f (of_atoms a b) = atom_form f a
left_side f (of_pair a s) = atom_form f a

abbrev pub right_side : Forms → Product → List Token
right_side f (of_atoms a b) = atom_form f b
right_side f (of_pair a s) = pair_form f s

-- the cost is that of the whole written-out formula, 3 for a product with variables on both sides, and the pair's gate counts by itself
pub record WrittenOut (count n : ℕ) (f : Forms) : Type 0 where
  pub whole : (x : Product) → Within count n x
      → product_cost f x ≡ under_gate ((info_of (left_side f x)).varies && (info_of (right_side f x)).varies) (cost_of (left_side f x)) (cost_of (right_side f x))
  pub pair : (s : ℕ) → s < n → info_of (pair_form f s) ≡ info_gate (gate_at (pair_gate f s)) (info_of (atom_form f (pair_b f s))) (info_of (atom_form f (pair_c f s)))

abbrev pub VariablesOnBothSides : Type 0
VariablesOnBothSides =
    (w count : ℕ) (atoms : List ℕ) (n : ℕ) (listed order target : List ℕ) (f : Forms) (found : Option Product)
    → product w count atoms n listed order target f ≡ answer found → WrittenOut count n f
