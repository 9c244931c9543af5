-- What the contracts of src/inner.rt cite, beside specs/Draw. Assumes nothing.
use Rattle.std.specs.Prelude.{List, ℕ, ◌≤◌, length}

-- a variable count, a width and a limit that are not refused, in arrays that are long enough
pub record Ready (nv w limit : ℕ) (ops operands : List ℕ) : Type 0 where
  pub some : 1 ≤ nv
  pub few : nv ≤ 6
  pub wide : 1 ≤ w
  pub narrow : w ≤ 64
  pub least : 1 ≤ limit
  pub most : limit ≤ 64
  pub ops-fit : limit ≤ length ops
  pub operands-fit : limit ≤ length operands
