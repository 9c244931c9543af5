-- `search_filter::inner::next_key` meets its contract: where a key is left, the step and the sum are words of 64 bits. Assumes nothing.
use mathlib.Core.Path.{ap}
use Prim.Native.Nat.{ℕ, ◌+◌}
use native.Mathlib.Omega.{arith}
use Rattle.arith.proofs.Remainders.{shl_one}
use Rattle.search_filter.proofs.Running.{step_small, next-below, key_next}
use Rattle.search_filter.proofs.inner.next_key.Goals as goal

pub overflow_add-result : goal.overflow_add-result
overflow_add-result c =
    let a = c.args in
    let bits = step_small a.class c.requires.0 a.key a.left c.requires.1 c.requires.2 in
    omega (arith, shl_one 64 bits, next-below a.class c.requires.0 a.key a.left c.requires.1 c.requires.2)

pub returns : goal.returns
returns c =
    let a = c.args in
    let bits = step_small a.class c.requires.0 a.key a.left c.requires.1 c.requires.2 in
    key_next a.class c.requires.0 a.key a.left c.requires.1 c.requires.2 _ (ap (λ (x : ℕ). a.key + x) (shl_one 64 bits))
