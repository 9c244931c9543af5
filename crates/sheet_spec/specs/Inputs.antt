-- The sheet's inputs. Assumes nothing.
use Rattle.std.specs.Prelude.{List, [], ◌∷◌, ◌++◌, map, ℕ, zero, suc, ◌*◌, replicate}
use Rattle.arrays.specs.Lists.{count_up}
use Rattle.probe_points.specs.declared.Point.{Point}
use Rattle.bank_spec.specs.Push.{Atom}
use Rattle.bank_spec.specs.Bank.{bank_of}
use Rattle.bank.specs.declared.Sizes.{Sizes}

-- n times over
unfoldable pub again : ℕ → List ℕ → List ℕ
again zero xs = []
again (suc n) xs = xs ++ again n xs

-- points of one variable: its word, then the five places past the variable count
unfoldable pub points : List ℕ → List Point
points xs = map (λ (x : ℕ). record { words = x ∷ replicate 5 0 }) xs

-- the zero target
abbrev pub zeros : List ℕ
zeros = replicate 16 0

-- P2: one variable, width 2, points 0 1 2 3 four times, zero target
unfoldable pub bank2 : List Atom
unfolding bank_of points again
bank2 = bank_of 1 2 (points (again 4 (0 ∷ (1 ∷ (2 ∷ (3 ∷ [])))))) zeros

-- P9: width 8, one variable, points 0 to 15
unfoldable pub bank9 : List ℕ → List Atom
unfolding bank_of points count_up
bank9 target = bank_of 1 8 (points (count_up 0 16)) target

-- P10: target 1 seven times, then 4, then zeros
abbrev pub target10 : List ℕ
target10 = replicate 7 1 ++ (4 ∷ replicate 8 0)

-- arrays as long as a bank build needs them
abbrev pub exact : Sizes
exact = record { lengths = 479; ops = 6 * 479; operands = 6 * 479; costs = 3 * 479; rows = 16 * 479; work = 4 * 479 }

-- P1's text in: the line `1 1 10`, then points 0 1 eight times over and target zeros, a blank after each number
unfoldable pub input1 : List ℕ
unfolding again
input1 = 49 ∷ (32 ∷ (49 ∷ (32 ∷ (49 ∷ (48 ∷ (10 ∷ (again 8 (48 ∷ (32 ∷ (49 ∷ (32 ∷ [])))) ++ again 16 (48 ∷ (32 ∷ [])))))))))

-- P1's text out, line by line
unfoldable pub output1 : List ℕ
output1 =
    (97 ∷ 116 ∷ 111 ∷ 109 ∷ 115 ∷ 32 ∷ 52 ∷ 32 ∷ 112 ∷ 97 ∷ 105 ∷ 114 ∷ 115 ∷ 32 ∷ 48 ∷ 32 ∷ 119 ∷ 104 ∷ 111 ∷ 108 ∷ 101 ∷ 10 ∷ [])
    ++ ((49 ∷ 32 ∷ 48 ∷ 32 ∷ 49 ∷ 10 ∷ [])
    ++ ((49 ∷ 32 ∷ 48 ∷ 32 ∷ 49 ∷ 10 ∷ [])
    ++ ((49 ∷ 32 ∷ 48 ∷ 32 ∷ 49 ∷ 10 ∷ [])
    ++ ((50 ∷ 32 ∷ 48 ∷ 32 ∷ 50 ∷ 10 ∷ [])
    ++ ((99 ∷ 48 ∷ 10 ∷ [])
    ++ ((99 ∷ 49 ∷ 10 ∷ [])
    ++ ((118 ∷ 48 ∷ 10 ∷ [])
    ++ (118 ∷ 48 ∷ 32 ∷ 33 ∷ 10 ∷ []))))))))
