-- `search_filter::inner::scan_lower` meets its contract: up to place i the words before place a are below the key, those from a on are not. Assumes nothing.
use mathlib.Core.Path.{sym, subst}
use Prim.Native.Nat.{ℕ, ◌+◌, ◌<◌, ◌≤◌}
use native.Mathlib.Omega.{arith}
use Rattle.search_filter.specs.Places.{word_at, Reached}
use Rattle.search_filter.proofs.Halving.{scan_below, scan_over}
use Rattle.search_filter.proofs.Words.{words-ascend}
use Rattle.search_filter.proofs.inner.scan_lower.Goals.{then-word_at-key, else-word_at-key}
use Rattle.search_filter.proofs.inner.scan_lower.Goals as goal

pub loop-i-preserved : goal.loop-i-preserved
loop-i-preserved c =
    let h = c.loop-i-test.true in
    let l = c.loop-i in
    let a = c.args in
    let at = word_at a.sorted.now.rows.now a.sorted.now.order.now in
    elim c.if-word_at-key.branch [
      | then-word_at-key w ↦
          subst (λ (r : ℕ). Reached at (l.i + 1) a.from a.key r) (sym w.a-is)
          (scan_below at a.sorted.now.n a.from a.key l.i l.a (words-ascend a.sorted.now.n a.sorted.now.rows.now a.sorted.now.order.now c.requires.0.ordered) (omega (arith, h, c.requires.1.within)) (subst (λ (x : ℕ). x < a.key) c.word_at.ensures w.if-word_at-key.true) l.invariant)
      | else-word_at-key w ↦
          subst (λ (r : ℕ). Reached at (l.i + 1) a.from a.key r) (sym w.a-is)
          (scan_over at a.from a.key l.i l.a (subst (λ (x : ℕ). a.key ≤ x) c.word_at.ensures w.if-word_at-key.false) l.invariant)
    ]
