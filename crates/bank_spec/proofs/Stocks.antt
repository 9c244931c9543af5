-- The stock's formulas pass the test, have weighted size at most 5 and at most 4 tokens; they are at most 157, and the seeds at most 8. Assumes nothing.
use mathlib.Core.Path.{◌≡◌}
use mathlib.Core.Bool.{Bool, true, false}
use mathlib.Core.List.{List, [], ◌∷◌, ◌++◌, flat_map}
use Prim.Native.Nat.{ℕ, zero, suc, ◌+◌, ◌-◌, ◌^◌, ◌≤◌, ◌<◌}
use native.Mathlib.Omega.{arith}
use lib.Dec.{eqb}
use lib.ListN.{length, length-append}
use Rattle.row_gates.specs.declared.Gate.{Gate}
use Rattle.row_gates.specs.declared.Gate.TheVariants.{And, Or, Xor, Add, Mul}
use Rattle.expr.specs.declared.Token.{Token}
use Rattle.expr.specs.declared.Token.TheVariants.{Constant, Variable, Binary, Not, Neg}
use Rattle.expr.specs.Formula.{is_formula, step, run, only, whole, or_else}
use Rattle.expr.proofs.Formulas.{constant-passes, variable-passes, not-passes, neg-passes, gate-passes}
use Rattle.expr_cost.specs.Cost.{is_nonlinear, cost_alg, info_of, cost_of}
use Rattle.arrays.specs.Lists.{count_up}
use Rattle.bank_spec.specs.Stock.{constants, of_variable, gates_of, difference_of, stock}
use Rattle.bank_spec.specs.Bank.{first_nonzero, seeds_of, or_all}
use Rattle.bank_spec.proofs.Lists.{Every, every_append, every_more, every-flat_map}
use Rattle.bank_spec.proofs.Soundness.{Fits}

-- ---- each formula
-- what holds of every formula of the stock
pub record Stocked (nv : ℕ) (ts : List Token) : Type 0 where
  pub formula : is_formula nv ts ≡ true
  pub size : (cost_of ts).size ≤ 5
  pub tokens : length ts ≤ 4

-- a constant
pub stocked-constant : (nv v : ℕ) → Stocked nv (Constant v ∷ [])
unfolding info_of whole run step only or_else cost_alg
stocked-constant nv v = record { formula = constant-passes nv v; size = omega arith; tokens = omega arith }

module _ (nv i : ℕ) (h : i < nv) where
  var : is_formula nv (Variable i ∷ []) ≡ true
  var = variable-passes nv i h

  -- a variable, its Neg and its Not
  pub stocked-variable : Stocked nv (Variable i ∷ [])
  unfolding info_of whole run step only or_else cost_alg
  stocked-variable = record { formula = var; size = omega arith; tokens = omega arith }

  pub stocked-neg : Stocked nv (Variable i ∷ (Neg ∷ []))
  unfolding info_of whole run step only or_else cost_alg
  stocked-neg = record { formula = neg-passes nv (Variable i ∷ []) var (omega arith); size = omega arith; tokens = omega arith }

  pub stocked-not : Stocked nv (Variable i ∷ (Not ∷ []))
  unfolding info_of whole run step only or_else cost_alg
  stocked-not = record { formula = not-passes nv (Variable i ∷ []) var (omega arith); size = omega arith; tokens = omega arith }

  module _ (j : ℕ) (l : j < nv) where
    size-gate : (g : Gate) → (cost_of (Variable i ∷ (Variable j ∷ (Binary g ∷ [])))).size ≤ 5
    unfolding info_of whole run step only or_else cost_alg is_nonlinear
    size-gate And = omega arith
    size-gate Or = omega arith
    size-gate Xor = omega arith
    size-gate Add = omega arith
    size-gate Mul = omega arith

    -- two variables under a gate
    pub stocked-gate : (g : Gate) → Stocked nv (Variable i ∷ (Variable j ∷ (Binary g ∷ [])))
    stocked-gate g = record { formula = gate-passes nv (Variable i ∷ []) var (Variable j ∷ []) (variable-passes nv j l) g (omega arith); size = size-gate g; tokens = omega arith }

    -- vi + Neg vj
    pub stocked_difference : Stocked nv (Variable i ∷ (Variable j ∷ (Neg ∷ (Binary Add ∷ []))))
    unfolding info_of whole run step only or_else cost_alg is_nonlinear
    stocked_difference = record {
      formula = gate-passes nv (Variable i ∷ []) var (Variable j ∷ (Neg ∷ [])) (neg-passes nv (Variable j ∷ []) (variable-passes nv j l) (omega arith)) Add (omega arith);
      size = omega arith;
      tokens = omega arith;
    }

    gates-stocked : Every (Stocked nv) (gates_of i j)
    unfolding gates_of
    gates-stocked = (stocked-gate And, (stocked-gate Or, (stocked-gate Xor, (stocked-gate Add, (stocked-gate Mul, tt)))))

    difference_stocked : Every (Stocked nv) (difference_of i j)
    unfolding difference_of
    difference_stocked = go (eqb i j)
      where
        go : (b : Bool) → Every (Stocked nv) (elim b as (λ (x : Bool). List (List Token)) [ true ↦ [] | false ↦ (Variable i ∷ (Variable j ∷ (Neg ∷ (Binary Add ∷ [])))) ∷ [] ])
        go true = tt
        go false = (stocked_difference, tt)

-- ---- the whole stock
below : (i n nv : ℕ) → i + n ≤ nv → Every (λ (j : ℕ). j < nv) (count_up i n)
unfolding count_up
below i zero nv h = tt
below i (suc n) nv h = (omega arith, below (suc i) n nv (omega arith))

constants-stocked : (nv w : ℕ) → Every (Stocked nv) (constants w)
unfolding constants
constants-stocked nv w = (stocked-constant nv 0, (stocked-constant nv 1, (stocked-constant nv 2, (stocked-constant nv (2 ^ w - 1), tt))))

variable-stocked : (nv i : ℕ) → i < nv → Every (Stocked nv) (of_variable i)
unfolding of_variable
variable-stocked nv i h = (stocked-variable nv i h, (stocked-neg nv i h, (stocked-not nv i h, tt)))

module _ (nv : ℕ) where
  -- what holds of the formulas of each i and j below nv
  over : (f : ℕ → ℕ → List (List Token)) (from to : ℕ → ℕ) → ((i : ℕ) → i < nv → from i + to i ≤ nv) → ((i : ℕ) → i < nv → (j : ℕ) → j < nv → Every (Stocked nv) (f i j))
      → Every (Stocked nv) (flat_map (λ (i : ℕ). flat_map (f i) (count_up (from i) (to i))) (count_up 0 nv))
  over f from to inside h =
      every-flat_map (λ (i : ℕ). i < nv) (Stocked nv) (λ (i : ℕ). flat_map (f i) (count_up (from i) (to i)))
      (λ i a. every-flat_map (λ (j : ℕ). j < nv) (Stocked nv) (f i) (h i a) (count_up (from i) (to i)) (below (from i) (to i) nv (inside i a)))
      (count_up 0 nv) (below 0 nv nv (omega arith))

  -- each formula of the stock passes the test, has weighted size at most 5 and at most 4 tokens
  pub stock-stocked : (w : ℕ) → Every (Stocked nv) (stock nv w)
  unfolding stock
  stock-stocked w =
      let variables : List (List Token) = flat_map of_variable (count_up 0 nv) in
      let gates : List (List Token) = flat_map (λ (i : ℕ). flat_map (gates_of i) (count_up i (nv - i))) (count_up 0 nv) in
      let differences : List (List Token) = flat_map (λ (i : ℕ). flat_map (difference_of i) (count_up 0 nv)) (count_up 0 nv) in
      every_append (Stocked nv) (constants w) (variables ++ (gates ++ differences)) (constants-stocked nv w)
      (every_append (Stocked nv) variables (gates ++ differences)
      (every-flat_map (λ (i : ℕ). i < nv) (Stocked nv) of_variable (variable-stocked nv) (count_up 0 nv) (below 0 nv nv (omega arith)))
      (every_append (Stocked nv) gates differences
      (over gates_of (λ i. i) (λ i. nv - i) (λ i h. omega arith) (gates-stocked nv))
      (over difference_of (λ i. 0) (λ i. nv) (λ i h. omega arith) (difference_stocked nv))))

  -- so each may be pushed where sizes are to stay at most 5
  pub stock-fits : (w : ℕ) → Every (Fits nv 5) (stock nv w)
  stock-fits w = every_more (Stocked nv) (Fits nv 5) (λ ts s. record { formula = s.formula; size = s.size }) (stock nv w) (stock-stocked w)

-- ---- how many
-- 4 constants, 3 for each variable, 5 for each i ≤ j and one for each i ≠ j: at six variables 157
pub stock-few : (nv w : ℕ) → nv ≤ 6 → length (stock nv w) ≤ 157
unfolding stock flat_map count_up constants of_variable gates_of difference_of
stock-few zero w h = omega arith
stock-few (suc zero) w h = omega arith
stock-few (suc (suc zero)) w h = omega arith
stock-few (suc (suc (suc zero))) w h = omega arith
stock-few (suc (suc (suc (suc zero)))) w h = omega arith
stock-few (suc (suc (suc (suc (suc zero))))) w h = omega arith
stock-few (suc (suc (suc (suc (suc (suc zero)))))) w h = omega arith
stock-few (suc (suc (suc (suc (suc (suc (suc nv))))))) w h = absurd (omega arith)

nonzero-few : (n : ℕ) (xs : List ℕ) → length (first_nonzero n xs) ≤ n
unfolding first_nonzero
nonzero-few zero xs = omega arith
nonzero-few (suc n) [] = omega arith
nonzero-few (suc n) (zero ∷ xs) = nonzero-few (suc n) xs
nonzero-few (suc n) (suc x ∷ xs) = omega (arith, nonzero-few n xs)

-- the OR and seven words, at most
pub seeds_few : (target : List ℕ) → length (seeds_of target) ≤ 8
unfolding seeds_of
seeds_few target =
    omega (arith, length-append (first_nonzero 1 (or_all target ∷ [])) (first_nonzero 7 target), nonzero-few 1 (or_all target ∷ []), nonzero-few 7 target)

nonzero-nonzero : (n : ℕ) (xs : List ℕ) → Every (λ (v : ℕ). 0 < v) (first_nonzero n xs)
unfolding first_nonzero
nonzero-nonzero zero xs = tt
nonzero-nonzero (suc n) [] = tt
nonzero-nonzero (suc n) (zero ∷ xs) = nonzero-nonzero (suc n) xs
nonzero-nonzero (suc n) (suc x ∷ xs) = (omega arith, nonzero-nonzero n xs)

-- zero is never seeded
pub seeds_nonzero : (target : List ℕ) → Every (λ (v : ℕ). 0 < v) (seeds_of target)
unfolding seeds_of
seeds_nonzero target =
    every_append (λ (v : ℕ). 0 < v) (first_nonzero 1 (or_all target ∷ [])) (first_nonzero 7 target) (nonzero-nonzero 1 (or_all target ∷ [])) (nonzero-nonzero 7 target)
