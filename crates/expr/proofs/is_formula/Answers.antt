-- `expr::is_formula` meets its contract: the test from here on, with the values counted so far, is the test of all. Assumes nothing.
use mathlib.Core.Path.{sym, ◌∙◌, subst}
use Prim.Native.Nat.{ℕ, ◌-◌, ◌+◌, ◌≤◌, ◌<◌}
use borrow.Author.Rules.{rules}
use Rattle.expr.proofs.Testing.{Testing, test-few, test-many, test-start, test_end, test_unknown, test_low, test-next}
use Rattle.expr.proofs.is_formula.Goals as goal

pub returns-then-token_count-lt1 : goal.returns-then-token_count-lt1
returns-then-token_count-lt1 c =
    let s = c.args in
    test-few s.nv s.token_count s.ops.now s.operands.now c.if-token_count-lt1.true

pub returns-then-token_count-gt-MAX_TOKENS : goal.returns-then-token_count-gt-MAX_TOKENS
returns-then-token_count-gt-MAX_TOKENS c =
    let s = c.args in
    test-many s.nv s.token_count s.ops.now s.operands.now c.if-token_count-gt-MAX_TOKENS.true

pub loop-i-init : goal.loop-i-init
loop-i-init c =
    let s = c.args in
    test-start s.nv s.token_count s.ops.now s.operands.now c.if-token_count-lt1.false c.if-token_count-gt-MAX_TOKENS.false

pub returns-then-not-is_known : goal.returns-then-not-is_known
returns-then-not-is_known c =
    let s = c.args in
    let l = c.loop-i in
    test_unknown s.nv s.token_count s.ops.now s.operands.now l.depth l.i l.invariant (search rules) c.token_at-t.result (sym c.token_at-t.ensures) (sym c.is_known.ensures ∙ c.if-not-is_known.true)

pub returns-then-depth-taken : goal.returns-then-depth-taken
returns-then-depth-taken c =
    let s = c.args in
    let l = c.loop-i in
    test_low s.nv s.token_count s.ops.now s.operands.now l.depth l.i l.invariant (search rules) c.token_at-t.result (sym c.token_at-t.ensures) (subst (λ (x : ℕ). l.depth < x) c.takes-taken.ensures c.if-depth-taken.true)

pub loop-i-preserved : goal.loop-i-preserved
loop-i-preserved c =
    let s = c.args in
    let l = c.loop-i in
    subst (λ (x : ℕ). Testing s.nv s.token_count s.ops.now s.operands.now (l.depth - x + 1) (l.i + 1)) (sym c.takes-taken.ensures)
    (test-next s.nv s.token_count s.ops.now s.operands.now l.depth l.i l.invariant (search rules) c.token_at-t.result (sym c.token_at-t.ensures) (sym c.is_known.ensures ∙ c.if-not-is_known.false) (subst (λ (x : ℕ). x ≤ l.depth) c.takes-taken.ensures c.if-depth-taken.false))

pub returns : goal.returns
returns c =
    let s = c.args in
    let l = c.loop-i in
    test_end s.nv s.token_count s.ops.now s.operands.now l.depth l.i l.invariant (search rules)
