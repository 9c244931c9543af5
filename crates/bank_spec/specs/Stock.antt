-- The formulas of 01's bank, in 01's order, up to Neg and Not of the atoms present. Assumes nothing.
use Rattle.std.specs.Prelude.{true, false, ℕ, zero, suc, ◌-◌, ◌^◌, eqb}
use mathlib.Core.List.{List, [], ◌∷◌, ◌++◌, map, flat_map}
use Rattle.arrays.specs.Lists.{count_up}
use Rattle.row_gates.specs.declared.Gate.{Gate}
use Rattle.row_gates.specs.declared.Gate.TheVariants.{And, Or, Xor, Add, Mul}
use Rattle.expr.specs.declared.Token.{Token}
use Rattle.expr.specs.declared.Token.TheVariants.{Constant, Variable, Binary, Not, Neg}

-- 01, Bank: constants 0, 1, 2, 2^w - 1
unfoldable pub constants : ℕ → List (List Token)
constants w = map (λ (v : ℕ). Constant v ∷ []) (0 ∷ (1 ∷ (2 ∷ ((2 ^ w - 1) ∷ []))))

-- 01, Bank: per i: v, Neg v, Not v
unfoldable pub of_variable : ℕ → List (List Token)
of_variable i = (Variable i ∷ []) ∷ ((Variable i ∷ (Neg ∷ [])) ∷ ((Variable i ∷ (Not ∷ [])) ∷ []))

-- 01, Bank: per i ≤ j: And, Or, Xor, Add, Mul
unfoldable pub gates_of : ℕ → ℕ → List (List Token)
gates_of i j = map (λ (g : Gate). Variable i ∷ (Variable j ∷ (Binary g ∷ []))) (And ∷ (Or ∷ (Xor ∷ (Add ∷ (Mul ∷ [])))))

-- 01, Bank: per i ≠ j: vi + Neg vj
unfoldable pub difference_of : ℕ → ℕ → List (List Token)
difference_of i j = elim (eqb i j) [ true ↦ [] | false ↦ (Variable i ∷ (Variable j ∷ (Neg ∷ (Binary Add ∷ [])))) ∷ [] ]

-- 01, Bank: the order of `populate`, up to Neg and Not of the atoms present
unfoldable pub stock : ℕ → ℕ → List (List Token)
unfolding flat_map count_up constants of_variable gates_of difference_of
stock nv w =
    constants w
    ++ (flat_map of_variable (count_up 0 nv)
    ++ (flat_map (λ (i : ℕ). flat_map (gates_of i) (count_up i (nv - i))) (count_up 0 nv)
    ++ flat_map (λ (i : ℕ). flat_map (difference_of i) (count_up 0 nv)) (count_up 0 nv)))
