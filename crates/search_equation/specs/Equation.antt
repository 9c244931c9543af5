-- The equation p × f = t modulo 2^w, the rule "used", and the running value that meets the solutions. The rule's p and t are reduced. Assumes nothing.
use Rattle.std.specs.Prelude.{Bool, not, ◌&&◌, cond, ℕ, zero, suc, ◌+◌, ◌-◌, ◌*◌, ◌%◌, ◌^◌, eqb, leb, ltb}
use Rattle.std.specs.Int.Count.{count_trailing_zeros}

-- 01, Candidates: z the trailing zeros of p, a word of 64 bits
abbrev pub zeros_of : ℕ → ℕ
zeros_of p = count_trailing_zeros 64 p

-- 01, Candidates: "not used" exactly if p = t = 0, or p ≠ 0, z > 8 and 2^z divides t. Otherwise "used"
unfoldable pub used : ℕ → ℕ → Bool
used p t = not (cond (eqb p 0) (eqb t 0) (ltb 8 (zeros_of p) && eqb (t % 2 ^ zeros_of p) 0))

-- 01, Candidates: p × f = t modulo 2^w
unfoldable pub solves : ℕ → ℕ → ℕ → ℕ → Bool
solves w p t f = eqb (p * f % 2 ^ w) (t % 2 ^ w)

-- 01, Candidates: 2^z divides t, so t has at least as many trailing zeros. Otherwise no f solves
unfoldable pub solvable : ℕ → ℕ → Bool
solvable p t = leb (zeros_of p) (zeros_of t)

-- 02, 2.5: the running value starts at the least solution, and 2^(w - z) is added for each further one. Here its value number i, from 0 on
unfoldable pub running_value : ℕ → ℕ → ℕ → ℕ → ℕ
running_value w z least zero = least
running_value w z least (suc i) = running_value w z least i + 2 ^ (w - z)
