-- `search_filter::inner::lower_between` meets its contract: what is looked for lies between `a` and `b`. Assumes nothing.
use mathlib.Core.Path.{subst}
use Prim.Native.Nat.{ℕ, ◌+◌, ◌-◌, ◌/◌, ◌<◌, ◌≤◌}
use native.Mathlib.Omega.{arith}
use Rattle.search_filter.specs.Places.{word_at}
use Rattle.search_filter.proofs.Halving.{seek_right, seek_left}
use Rattle.search_filter.proofs.Words.{words-ascend}
use Rattle.search_filter.proofs.inner.lower_between.Goals as goal

pub loop-b-preserved-then-word_at-key : goal.loop-b-preserved-then-word_at-key
loop-b-preserved-then-word_at-key c =
    let l = c.loop-b in
    let a = c.args in
    let mid = l.a + (l.b - l.a) / 2 in
    seek_right (word_at a.sorted.now.rows.now a.sorted.now.order.now) a.sorted.now.n a.from a.key l.a l.b mid (words-ascend a.sorted.now.n a.sorted.now.rows.now a.sorted.now.order.now c.requires.0.ordered) (omega arith) (omega arith) l.invariant (subst (λ (x : ℕ). x < a.key) c.word_at.ensures c.if-word_at-key.true)

pub loop-b-preserved : goal.loop-b-preserved
loop-b-preserved c =
    let l = c.loop-b in
    let a = c.args in
    let mid = l.a + (l.b - l.a) / 2 in
    seek_left (word_at a.sorted.now.rows.now a.sorted.now.order.now) a.sorted.now.n a.from a.key l.a l.b mid (words-ascend a.sorted.now.n a.sorted.now.rows.now a.sorted.now.order.now c.requires.0.ordered) (omega arith) (omega arith) l.invariant (subst (λ (x : ℕ). a.key ≤ x) c.word_at.ensures c.if-word_at-key.false)
