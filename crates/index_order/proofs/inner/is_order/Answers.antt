-- `index_order::inner::is_order` meets its contract: the entries passed are below n and ascend, and `word` and `last` are the last one's. Assumes nothing.
use Rattle.std.proofs.Common.{◌≡◌, ◌+◌, ◌*◌, ◌<◌, ◌≤◌, get_or, take, sym, arith}
use Rattle.index_order.specs.Order.{first_word, is_order}
use Rattle.index_order.proofs.Tested.{passed_none, passed_more, passed_all, fails_low, fails_word, fails_after, is_false}
use Rattle.index_order.proofs.inner.is_order.Goals as goal

pub returns-then-n-eq0 : goal.returns-then-n-eq0
returns-then-n-eq0 c =
    let a = c.args in
    sym (passed_all a.rows.now a.order.now a.n 0 0 0 (omega arith) (omega (arith, c.if-n-eq0.true)) (passed_none a.rows.now a.order.now a.n))

pub returns-then-last-n : goal.returns-then-last-n
returns-then-last-n c =
    let a = c.args in
    is_false (is_order a.n a.rows.now (take a.n a.order.now))
    (fails_low a.rows.now a.order.now a.n 0 0 0 (passed_none a.rows.now a.order.now a.n) (omega arith) (omega arith) c.if-last-n.true)

pub returns-then-s-n : goal.returns-then-s-n
returns-then-s-n c =
    let l = c.loop-i in
    let a = c.args in
    is_false (is_order a.n a.rows.now (take a.n a.order.now))
    (fails_low a.rows.now a.order.now a.n l.word (l.last + 1) l.i l.invariant (omega arith) (omega arith) c.if-s-n.true)

pub returns-then-least-word : goal.returns-then-least-word
returns-then-least-word c =
    let l = c.loop-i in
    let a = c.args in
    let s = get_or a.order.now l.i 0 in
    let row = c.type_inv.rows (16 * s) in
    let both : (first_word a.rows.now s ≤ l.word) × (s < l.last + 1) = elim c.if-s-last.branch [
      | goal.then-s-last w ↦ (omega (arith, row, c.if-least-word.true, w.least-is, c.wrapping_add_u64-more.ensures.value), omega (arith, w.if-s-last.true))
      | goal.else-s-last w ↦ absurd (omega (arith, c.if-least-word.true, w.least-is))
    ] in
    is_false (is_order a.n a.rows.now (take a.n a.order.now))
    (fails_after a.rows.now a.order.now a.n l.word (l.last + 1) l.i l.invariant (omega arith) (omega arith) both.0 both.1)

pub returns-then-w-least : goal.returns-then-w-least
returns-then-w-least c =
    let l = c.loop-i in
    let a = c.args in
    let fails = is_false (is_order a.n a.rows.now (take a.n a.order.now)) in
    let more = c.wrapping_add_u64-more.ensures.value in
    elim c.if-s-last.branch [
      | goal.then-s-last w ↦ fails (fails_after a.rows.now a.order.now a.n l.word (l.last + 1) l.i l.invariant (omega arith) (omega arith) (omega (arith, c.if-w-least.true, w.least-is, more)) (omega (arith, w.if-s-last.true)))
      | goal.else-s-last w ↦ fails (fails_word a.rows.now a.order.now a.n l.word (l.last + 1) l.i l.invariant (omega arith) (omega arith) (omega (arith, c.if-w-least.true, w.least-is)))
    ]

pub loop-i-preserved : goal.loop-i-preserved
loop-i-preserved c =
    let l = c.loop-i in
    let a = c.args in
    let s = get_or a.order.now l.i 0 in
    let more = c.wrapping_add_u64-more.ensures.value in
    let slot : first_word a.rows.now s ≡ l.word → l.last + 1 ≤ s = λ e. elim c.if-s-last.branch [
      | goal.then-s-last w ↦ absurd (omega (arith, c.if-w-least.false, c.if-least-word.false, w.least-is, more, e))
      | goal.else-s-last w ↦ omega (arith, w.if-s-last.false)
    ] in
    passed_more a.rows.now a.order.now a.n l.word (l.last + 1) l.i l.invariant (omega arith) (omega (arith, c.if-w-least.false, c.if-least-word.false)) slot

pub returns : goal.returns
returns c =
    let l = c.loop-i in
    let a = c.args in
    sym (passed_all a.rows.now a.order.now a.n l.word (l.last + 1) l.i (omega arith) (omega arith) l.invariant)
