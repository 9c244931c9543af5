-- `search_filter::inner::tail_key` meets its contract: at 64 bits no word is 2^w or more, nor where the last isn't. Assumes nothing.
use mathlib.Core.Path.{subst}
use Prim.Native.Nat.{ℕ, ◌^◌, ◌<◌}
use native.Mathlib.Omega.{arith}
use Rattle.arith.proofs.Remainders.{shl_one}
use Rattle.search_filter.proofs.Words.{words-below}
use Rattle.search_filter.proofs.inner.tail_key.Goals as goal

pub returns-then-word_at-top : goal.returns-then-word_at-top
returns-then-word_at-top c =
    let a = c.args in
    let small : a.w < 64 = omega (arith, c.requires.2, c.if-w-eq-MAX_WIDTH.false) in
    words-below a.n a.rows.now a.order.now c.requires.0 (2 ^ a.w) c.word_at.result c.word_at.ensures (subst (λ (x : ℕ). c.word_at.result < x) (shl_one 64 small) c.if-word_at-top.true)
