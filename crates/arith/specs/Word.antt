-- Words of w bits, as numbers. Assumes nothing.
use Rattle.std.specs.Prelude.{ℕ, ◌+◌, ◌-◌, ◌/◌, ◌%◌, ◌^◌, min}

-- 01, arith.rs: what a word of w bits is below. A u64 has no more than 64, so that `bitmask(w)`, one less, is 0 for 0 and all ones from 64 up
abbrev pub modulus : ℕ → ℕ
modulus w = 2 ^ min w 64

-- 01, evaluator.rs: Not is 2^w - 1 - v, v reduced; m is 2^w
abbrev pub not_of : ℕ → ℕ → ℕ
not_of m v = m - 1 - v % m

-- 01, evaluator.rs: Neg is taken modulo 2^w; m is 2^w
abbrev pub neg_of : ℕ → ℕ → ℕ
neg_of m v = (m - v % m) % m

-- 01, cobra-simd lib.rs, `gate_residual`: Add inverts, a - b modulo 2^w; m is 2^w
abbrev pub sub_of : ℕ → ℕ → ℕ → ℕ
sub_of m a b = (a + (m - b % m)) % m

-- bit i of a number, 0 or 1
abbrev pub bit_of : ℕ → ℕ → ℕ
bit_of s i = s / 2 ^ i % 2
