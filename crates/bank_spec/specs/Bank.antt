-- 01's bank: the stock, then Neg and Not of the atoms present, then the seeds of a target. Assumes nothing.
use Rattle.std.specs.Prelude.{List, [], ◌∷◌, ◌++◌, ℕ, zero, suc}
use Rattle.std.specs.Int.Bits.{bit_or}
use Rattle.expr.specs.declared.Token.TheVariants.{Not, Neg}
use Rattle.probe_points.specs.declared.Point.{Point}
use Rattle.bank_spec.specs.Push.{Atom, built}
use Rattle.bank_spec.specs.Stock.{stock}

-- 01, Bank: the OR of the target row
unfoldable pub or_all : List ℕ → ℕ
or_all [] = 0
or_all (x ∷ xs) = bit_or x (or_all xs)

-- 01, Bank: the first n nonzero words, repeats counted
unfoldable pub first_nonzero : ℕ → List ℕ → List ℕ
first_nonzero zero xs = []
first_nonzero (suc n) [] = []
first_nonzero (suc n) (zero ∷ xs) = first_nonzero (suc n) xs
first_nonzero (suc n) (suc x ∷ xs) = suc x ∷ first_nonzero n xs

-- 01, Bank: seeds: the OR of the target row, then its first seven nonzero words, repeats counted; zero is never seeded
unfoldable pub seeds_of : List ℕ → List ℕ
unfolding or_all first_nonzero
seeds_of target = first_nonzero 1 (or_all target ∷ []) ++ first_nonzero 7 target

-- 01, Bank: `populate` over lent points, then the seeds of the target
unfoldable pub bank_of : ℕ → ℕ → List Point → List ℕ → List Atom
unfolding built stock seeds_of
bank_of nv w points target = built w points (stock nv w) (Neg ∷ (Not ∷ [])) (seeds_of target)
