-- `search_filter::inner::lower` meets its contract: the samples leave the places between two of them. Assumes nothing.
use mathlib.Core.Path.{subst}
use Prim.Native.Nat.{ℕ, ◌≤◌}
use native.Mathlib.Omega.{arith}
use lib.ListN.{length}
use Rattle.search_filter.specs.Places.{word_at}
use Rattle.search_filter.proofs.Halving.{reached_here}
use Rattle.search_filter.proofs.Words.{words-ascend, samples_ascend, narrowed, window-next, lower_from}
use Rattle.search_filter.proofs.inner.lower.Goals as goal

pub returns-then-key-word_at : goal.returns-then-key-word_at
returns-then-key-word_at c =
    let l = c.args.sorted.now in
    reached_here (word_at l.rows.now l.order.now) l.n c.args.lo c.args.key (words-ascend l.n l.rows.now l.order.now c.requires.0.ordered)
    (omega (arith, c.requires.1, c.if-lo-n.false)) (subst (λ (x : ℕ). c.args.key ≤ x) c.word_at.ensures c.if-key-word_at.true)

pub count_below-u-requires : goal.count_below-u-requires
count_below-u-requires c =
    let l = c.args.sorted.now in
    samples_ascend l.n l.rows.now l.order.now c.requires.0.ordered l.samples.now (length l.samples.now) c.requires.0.sampled

pub lower_between-requires : goal.lower_between-requires
lower_between-requires c =
    let a = c.args in
    let l = a.sorted.now in
    let known = narrowed l a.lo a.key c.requires.0 (omega (arith, c.requires.1, c.if-lo-n.false)) c.word_at.ensures c.if-key-word_at.false c.count_below-u.ensures c.after_samples-from.ensures in
    (c.requires.0, window-next l a.lo a.key c.count_below-u.result c.after_samples-from.result known c.if-u-sorted.true)

pub returns-then-u-sorted : goal.returns-then-u-sorted
returns-then-u-sorted c =
    let a = c.args in
    let l = a.sorted.now in
    let known = narrowed l a.lo a.key c.requires.0 (omega (arith, c.requires.1, c.if-lo-n.false)) c.word_at.ensures c.if-key-word_at.false c.count_below-u.ensures c.after_samples-from.ensures in
    lower_from l a.lo a.key c.count_below-u.result c.after_samples-from.result known c.lower_between.result c.lower_between.ensures

pub returns : goal.returns
returns c =
    let a = c.args in
    let l = a.sorted.now in
    let known = narrowed l a.lo a.key c.requires.0 (omega (arith, c.requires.1, c.if-lo-n.false)) c.word_at.ensures c.if-key-word_at.false c.count_below-u.ensures c.after_samples-from.ensures in
    lower_from l a.lo a.key c.count_below-u.result c.after_samples-from.result known c.lower_between-2.result c.lower_between-2.ensures
