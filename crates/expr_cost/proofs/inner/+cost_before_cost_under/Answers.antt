-- `expr_cost::inner::cost_before` and `expr_cost::inner::cost_under` meet their contracts: a formula that ends before a place is a tree written out, its
-- operands are such formulas, and the token count falls. Assumes nothing.
use Rattle.std.proofs.Common.{◌≡◌, ℕ, ◌+◌, ◌-◌, ◌*◌, ◌<◌, ◌≤◌, List, refl, sym, ap, ap₂, ◌∙◌, subst, arith}
use Rattle.expr.specs.declared.Token.{Token}
use Rattle.expr.specs.declared.Token.TheVariants.{Constant, Variable, Binary, Not, Neg, Bad}
use Rattle.expr.specs.Formula.{arity}
use Rattle.row_gates.specs.declared.Gate.{Gate}
use Rattle.expr_cost.specs.declared.inner.SpanCost.{SpanCost}
use Rattle.expr_cost.specs.Cost.{Roomy}
use Rattle.expr_cost.specs.Span.{back, Ends, span_unary, span_gate, cost_before}
use Rattle.expr_cost.proofs.Spans.{ends_pos, ends_roomy, constant-before, variable-before, bad-before, unary_before, last_operand, gate-left, Last, Left}
use Rattle.expr_cost.proofs.inner.+cost_before_cost_under.Goals as goal

abbrev count : List ℕ → List ℕ → ℕ → ℕ
count ops operands to = to - back ops operands to 1

-- what the last arms know of the token
takes_operand : (t : Token) → ((k : ℕ) → t ≡ Constant k → ⊥) → ((i : ℕ) → t ≡ Variable i → ⊥) → (t ≡ Bad → ⊥) → 1 ≤ arity t
unfolding arity
takes_operand (Constant k) p q r = absurd (p k refl)
takes_operand (Variable i) p q r = absurd (q i refl)
takes_operand (Binary g) p q r = omega arith
takes_operand Not p q r = omega arith
takes_operand Neg p q r = omega arith
takes_operand Bad p q r = absurd (r refl)

takes_one : (t : Token) → 1 ≤ arity t → ((g : Gate) → t ≡ Binary g → ⊥) → arity t ≡ 1
unfolding arity
takes_one (Constant k) p h = absurd (omega arith)
takes_one (Variable i) p h = absurd (omega arith)
takes_one (Binary g) p h = absurd (h g refl)
takes_one Not p h = refl
takes_one Neg p h = refl
takes_one Bad p h = absurd (omega arith)

-- the left operand ends where the right one begins
begins : (ops operands : List ℕ) (to : ℕ) {r : SpanCost} → r ≡ cost_before ops operands to → r.from ≡ back ops operands to 1
unfolding cost_before
begins ops operands to e = ap (λ (x : SpanCost). x.from) e

-- ---- cost_before
pub cost_before-overflow_sub-last : goal.cost_before-overflow_sub-last
cost_before-overflow_sub-last t c = omega (arith, ends_pos c.args.ops.now c.args.operands.now c.args.to c.requires)

pub cost_before-cost_under-requires : goal.cost_before-cost_under-requires
cost_before-cost_under-requires t c =
    let s = c.args in
    let is : 2 * count s.ops.now s.operands.now s.to + 1 ≡ t = c.decreases in
    (omega arith, record { ends = c.requires; last = sym c.token_at-t.ensures; takes = takes_operand c.token_at-t.result c.in_default.not-Constant c.in_default.not-Variable c.in_default.not-Bad })

pub cost_before-returns-in-Constant : goal.cost_before-returns-in-Constant
cost_before-returns-in-Constant t c =
    c.leaf.ensures ∙ constant-before c.args.ops.now c.args.operands.now c.args.to c.requires c.token_at-t.result (sym c.token_at-t.ensures) _ c.in-Constant.is

pub cost_before-returns-in-Variable : goal.cost_before-returns-in-Variable
cost_before-returns-in-Variable t c =
    c.leaf-in-Variable.ensures ∙ variable-before c.args.ops.now c.args.operands.now c.args.to c.requires c.token_at-t.result (sym c.token_at-t.ensures) _ c.in-Variable.is

pub cost_before-returns-in-Bad : goal.cost_before-returns-in-Bad
cost_before-returns-in-Bad t c = absurd (bad-before c.args.ops.now c.args.operands.now c.args.to c.requires c.token_at-t.result (sym c.token_at-t.ensures) c.in-Bad.is)

-- ---- cost_under
pub cost_under-overflow_sub-to : goal.cost_under-overflow_sub-to
cost_under-overflow_sub-to t c = omega (arith, ends_pos c.args.ops.now c.args.operands.now c.args.to c.requires.ends)

pub cost_under-cost_before-right-requires : goal.cost_under-cost_before-right-requires
cost_under-cost_before-right-requires t c =
    let s = c.args in
    let o : Last s.ops.now s.operands.now s.to = last_operand s.ops.now s.operands.now s.to s.t c.requires in
    let is : 2 * count s.ops.now s.operands.now s.to ≡ t = c.decreases in
    (omega (arith, o.shorter, is), o.ends)

pub cost_under-cost_before-requires : goal.cost_under-cost_before-requires
cost_under-cost_before-requires t c =
    let s = c.args in
    let o : Left s.ops.now s.operands.now s.to c.in-Binary.g = gate-left s.ops.now s.operands.now s.to s.t c.requires _ c.in-Binary.is in
    let is : 2 * count s.ops.now s.operands.now s.to ≡ t = c.decreases in
    subst (λ (n : ℕ). (2 * count s.ops.now s.operands.now n + 1 < t) × Ends s.ops.now s.operands.now n) (sym (begins s.ops.now s.operands.now (s.to - 1) c.cost_before-right.ensures)) (omega (arith, o.shorter, is), o.ends)

pub cost_under-under_gate-requires : goal.cost_under-under_gate-requires
cost_under-under_gate-requires t c =
    let s = c.args in
    let r = c.cost_before-right.ensures in
    let last : Last s.ops.now s.operands.now s.to = last_operand s.ops.now s.operands.now s.to s.t c.requires in
    let left : Left s.ops.now s.operands.now s.to c.in-Binary.g = gate-left s.ops.now s.operands.now s.to s.t c.requires _ c.in-Binary.is in
    let left_is : c.cost_before.result ≡ cost_before s.ops.now s.operands.now (back s.ops.now s.operands.now (s.to - 1) 1)
    = c.cost_before.ensures ∙ ap (λ (n : ℕ). cost_before s.ops.now s.operands.now n) (begins s.ops.now s.operands.now (s.to - 1) r) in (
      subst (λ (x : SpanCost). Roomy x.info.cost) (sym left_is) (ends_roomy s.ops.now s.operands.now _ left.ends),
      subst (λ (x : SpanCost). Roomy x.info.cost) (sym r) (ends_roomy s.ops.now s.operands.now _ last.ends),
    )

pub cost_under-under_unary-requires : goal.cost_under-under_unary-requires
cost_under-under_unary-requires t c =
    let s = c.args in
    let last : Last s.ops.now s.operands.now s.to = last_operand s.ops.now s.operands.now s.to s.t c.requires in
    subst (λ (x : SpanCost). Roomy x.info.cost) (sym c.cost_before-right.ensures) (ends_roomy s.ops.now s.operands.now (s.to - 1) last.ends)

pub cost_under-returns-in-Binary : goal.cost_under-returns-in-Binary
cost_under-returns-in-Binary t c =
    let s = c.args in
    let r = c.cost_before-right.ensures in
    let left : Left s.ops.now s.operands.now s.to c.in-Binary.g = gate-left s.ops.now s.operands.now s.to s.t c.requires _ c.in-Binary.is in
    let left_is : c.cost_before.result ≡ cost_before s.ops.now s.operands.now (back s.ops.now s.operands.now (s.to - 1) 1)
    = c.cost_before.ensures ∙ ap (λ (n : ℕ). cost_before s.ops.now s.operands.now n) (begins s.ops.now s.operands.now (s.to - 1) r) in
    c.under_gate.ensures
    ∙ ap₂ (λ (x y : SpanCost). span_gate c.in-Binary.g x y) left_is r
    ∙ left.cost

pub cost_under-returns-in_default : goal.cost_under-returns-in_default
cost_under-returns-in_default t c =
    let s = c.args in
    c.under_unary.ensures
    ∙ ap (λ (x : SpanCost). span_unary x) c.cost_before-right.ensures
    ∙ unary_before s.ops.now s.operands.now s.to s.t c.requires (takes_one s.t c.requires.takes c.in_default.not-Binary)
