-- The test of words behind refusal 5. Assumes nothing.
use Rattle.std.specs.Prelude.{Bool, false, ◌||◌, List, [], ◌∷◌, ℕ, leb}

-- 01, Turned back, 5: a point, target or row word not below 2^w; m is 2^w
unfoldable pub reaches : ℕ → List ℕ → Bool
reaches m [] = false
reaches m (x ∷ xs) = leb m x || reaches m xs
