-- A place in the stock: the formula there, the place after it, and all formulas from there on. Assumes nothing.
use Rattle.std.specs.Prelude.{◌≡◌, Bool, true, false, cond, ℕ, suc, ◌+◌, ◌-◌, ◌^◌, ◌≤◌, ◌<◌, eqb, ltb, drop}
use mathlib.Core.List.{List, [], ◌∷◌, ◌++◌, flat_map}
use Rattle.row_gates.specs.Gates.{gate_at}
use Rattle.row_gates.specs.declared.Gate.TheVariants.{Add}
use Rattle.expr.specs.declared.Token.{Token}
use Rattle.expr.specs.declared.Token.TheVariants as T
use Rattle.arrays.specs.Lists.{count_up}
use Rattle.bank_spec.specs.Stock.{constants, of_variable, gates_of, difference_of}
use Rattle.bank_stock.specs.declared.Cursor.{Cursor}
use Rattle.bank_stock.specs.declared.Cursor.TheVariants.{Constant, Variable, Pair, Difference, Done}

-- ---- the formula at a place
-- 01, Bank: constants 0, 1, 2, 2^w - 1
abbrev pub constant_at : ℕ → ℕ → ℕ
constant_at w k = cond (ltb k 3) k (2 ^ w - 1)

-- 01, Bank: per i: v, Neg v, Not v
abbrev pub variable_at : ℕ → ℕ → List Token
variable_at i k = cond (eqb k 0) (T.Variable i ∷ []) (cond (eqb k 1) (T.Variable i ∷ (T.Neg ∷ [])) (T.Variable i ∷ (T.Not ∷ [])))

-- 01, Bank: the two above; per i ≤ j: And, Or, Xor, Add, Mul; per i ≠ j: vi + Neg vj. Past the end there is none: any formula stands for it
unfoldable pub form_of : ℕ → Cursor → List Token
form_of w (Constant k) = T.Constant (constant_at w k) ∷ []
form_of w (Variable i k) = variable_at i k
form_of w (Pair i j k) = T.Variable i ∷ (T.Variable j ∷ (T.Binary (gate_at k) ∷ []))
form_of w (Difference i j) = T.Variable i ∷ (T.Variable j ∷ (T.Neg ∷ (T.Binary Add ∷ [])))
form_of w Done = T.Constant 0 ∷ []

-- ---- the place after it
-- 01, Bank: per i ≠ j: j, or the number after it where j is i
abbrev pub skipped : ℕ → ℕ → ℕ
skipped i j = cond (eqb i j) (j + 1) j

-- the first difference at or after i and j
unfoldable pub difference_from : ℕ → ℕ → ℕ → Cursor
difference_from nv i j = cond (ltb (skipped i j) nv) (Difference i (skipped i j)) (cond (ltb (i + 1) nv) (Difference (i + 1) 0) Done)

-- 01, Bank: the order of the constants, the variables' forms, the gates and the differences
unfoldable pub next_of : ℕ → Cursor → Cursor
unfolding difference_from
next_of nv (Constant k) = cond (ltb (k + 1) 4) (Constant (k + 1)) (Variable 0 0)
next_of nv (Variable i k) = cond (ltb (k + 1) 3) (Variable i (k + 1)) (cond (ltb (i + 1) nv) (Variable (i + 1) 0) (Pair 0 0 0))
next_of nv (Pair i j k) =
    cond (ltb (k + 1) 5) (Pair i j (k + 1))
    (cond (ltb (j + 1) nv) (Pair i (j + 1) 0)
    (cond (ltb (i + 1) nv) (Pair (i + 1) (i + 1) 0) (difference_from nv 0 0)))
next_of nv (Difference i j) = difference_from nv i (j + 1)
next_of nv Done = Done

-- the place of constant 0
abbrev pub first_of : Cursor
first_of = Constant 0

-- whether nothing is left
abbrev pub is_done : Cursor → Bool
is_done (Constant k) = false
is_done (Variable i k) = false
is_done (Pair i j k) = false
is_done (Difference i j) = false
is_done Done = true

-- ---- which places there are
pub record WithinVariable (nv i k : ℕ) : Type 0 where
  pub variable : i < nv
  pub form : k < 3

pub record WithinPair (nv i j k : ℕ) : Type 0 where
  pub order : i ≤ j
  pub variable : j < nv
  pub gate : k < 5

pub record WithinDifference (nv i j : ℕ) : Type 0 where
  pub left : i < nv
  pub right : j < nv
  pub differ : eqb i j ≡ false

abbrev pub Within : ℕ → Cursor → Type 0
Within nv (Constant k) = k < 4
Within nv (Variable i k) = WithinVariable nv i k
Within nv (Pair i j k) = WithinPair nv i j k
Within nv (Difference i j) = WithinDifference nv i j
Within nv Done = Unit {0}

-- what the calls at a place ask for
pub record Stands (nv : ℕ) (c : Cursor) : Type 0 where
  pub least : 1 ≤ nv
  pub most : nv ≤ 6
  pub within : Within nv c

-- ---- all formulas from a place on
abbrev pub variables_from : ℕ → ℕ → List (List Token)
variables_from nv i = flat_map of_variable (count_up i (nv - i))

-- the gates of variable i with those from j on; of all variables from i on
abbrev pub pairs_of : ℕ → ℕ → ℕ → List (List Token)
pairs_of nv i j = flat_map (gates_of i) (count_up j (nv - j))

abbrev pub pairs_from : ℕ → ℕ → List (List Token)
pairs_from nv i = flat_map (λ (i : ℕ). pairs_of nv i i) (count_up i (nv - i))

-- the differences of variable i with those from j on; of all variables from i on
abbrev pub differences_of : ℕ → ℕ → ℕ → List (List Token)
differences_of nv i j = flat_map (difference_of i) (count_up j (nv - j))

abbrev pub differences_from : ℕ → ℕ → List (List Token)
differences_from nv i = flat_map (λ (i : ℕ). flat_map (difference_of i) (count_up 0 nv)) (count_up i (nv - i))

-- the end of `stock` (bank_spec specs/Stock) that begins at the place
unfoldable pub rest_of : ℕ → ℕ → Cursor → List (List Token)
unfolding constants of_variable gates_of difference_of count_up flat_map
rest_of nv w (Constant k) = drop k (constants w) ++ (variables_from nv 0 ++ (pairs_from nv 0 ++ differences_from nv 0))
rest_of nv w (Variable i k) = drop k (of_variable i) ++ (variables_from nv (suc i) ++ (pairs_from nv 0 ++ differences_from nv 0))
rest_of nv w (Pair i j k) = drop k (gates_of i j) ++ (pairs_of nv i (suc j) ++ (pairs_from nv (suc i) ++ differences_from nv 0))
rest_of nv w (Difference i j) = differences_of nv i j ++ differences_from nv (suc i)
rest_of nv w Done = []
