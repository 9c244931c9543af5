-- `search_filter::inner::settle_keys` meets its contract: from `at` on, no word of the class is below the key, and before it none is of the class. Each turn looks up or goes to the next key. Assumes nothing.
use mathlib.Core.Path.{◌∙◌, subst}
use Prim.Native.Nat.{ℕ, ◌<◌, ◌≤◌}
use native.Mathlib.Omega.{arith}
use Rattle.search_filter.specs.Places.{word_at}
use Rattle.search_filter.proofs.Keys.{going_last, going_next}
use Rattle.search_filter.proofs.inner.settle_keys.Goals as goal

pub returns-then-left-eq1 : goal.returns-then-left-eq1
returns-then-left-eq1 c =
    let within : c.loop-left.at < c.args.sorted.now.n
    = omega (arith, c.loop-left.invariant.sweeping.within, c.if-at-n.false) in
    let beyond : c.loop-left.key ≤ word_at c.args.sorted.now.rows.now c.args.sorted.now.order.now c.loop-left.at
    = let l = c.loop-left in subst (λ (x : ℕ). l.key ≤ x) c.word_at-word.ensures c.if-word-key.false in
    let l = c.loop-left in
    let a = c.args in
    going_last a.class c.requires.1 a.sorted.now.n a.sorted.now.rows.now a.sorted.now.order.now a.s.at l.at l.key l.left l.invariant c.loop-left-test.true c.requires.0.ordered within beyond (λ e. c.if-word-key-2.false (c.word_at-word.ensures ∙ e)) (omega (arith, c.if-left-eq1.true))

pub loop-left-preserved : goal.loop-left-preserved
loop-left-preserved c =
    let within : c.loop-left.at < c.args.sorted.now.n
    = omega (arith, c.loop-left.invariant.sweeping.within, c.if-at-n.false) in
    let beyond : c.loop-left.key ≤ word_at c.args.sorted.now.rows.now c.args.sorted.now.order.now c.loop-left.at
    = let l = c.loop-left in subst (λ (x : ℕ). l.key ≤ x) c.word_at-word.ensures c.if-word-key.false in
    let l = c.loop-left in
    let a = c.args in
    going_next a.class c.requires.1 a.sorted.now.n a.sorted.now.rows.now a.sorted.now.order.now a.s.at l.at l.key l.left l.invariant c.loop-left-test.true c.requires.0.ordered within beyond (λ e. c.if-word-key-2.false (c.word_at-word.ensures ∙ e)) (omega (arith, c.loop-left-test.true, c.if-left-eq1.false)) c.next_key-key.result c.next_key-key.ensures
