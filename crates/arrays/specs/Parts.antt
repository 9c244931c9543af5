-- A flat list in parts of s elements each, and a list of records laid out in such parts. Assumes nothing.
use Rattle.std.specs.Prelude.{List, [], ◌∷◌, ◌++◌, ℕ, ◌+◌, ◌*◌, length, take, drop}

-- part k of the flat list l: 01's rows (stride 16), opcodes and operands (6), costs and pairs (3)
unfoldable pub part_at : ℕ → List ℕ → ℕ → List ℕ
part_at s l k = take s (drop (s * k) l)

-- the flat list l with xs as its part k
unfoldable pub put_part : ℕ → List ℕ → ℕ → List ℕ → List ℕ
put_part s l k xs = take (s * k) l ++ (xs ++ drop (s * k + s) l)

-- the parts of a list of records, one after the other
unfoldable pub encode : {A : Type 0} → (A → List ℕ) → List A → List ℕ
encode f [] = []
encode f (a ∷ more) = f a ++ encode f more

-- 01, From heap ..: places beyond the counts in a lent output stay unchanged. The parts of the records from the start on, and after them what the array held
abbrev pub spread : {A : Type 0} → ℕ → (A → List ℕ) → List A → List ℕ → List ℕ
spread s part records old = encode part records ++ drop (s * length records) old
