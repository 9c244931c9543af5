-- Congruence and inverses modulo m. Assumes nothing.
use Rattle.std.specs.Prelude.{◌≡◌, ℕ, ◌*◌, ◌%◌, ◌<◌}

-- a and b leave the same remainder. A record, so that antt finds the numbers of a law about it: under `%` alone it would not
pub record Cong (m a b : ℕ) : Type 0 where
  pub same : a % m ≡ b % m

-- 01, Candidates: `mod_inverse_odd(m, k)` is the number below 2^k with product 1 with m modulo 2^k; n is 2^k.
-- An even m has none, unless n is 1: the answer is then 0. The three fields leave one answer (`inverse_unique` of proofs/Newton)
pub record Inverse (n m r : ℕ) : Type 0 where
  pub below : r < n
  pub inverse : m % 2 ≡ 1 → Cong n (m * r) 1
  pub even : m % 2 ≡ 0 → r ≡ 0
