-- `expr_eval::inner::eval_checked_over` meets its contract: the test of the rest is the test of all, and where all passes reading the rest over
-- what the array holds gives the value. Assumes nothing.
use mathlib.Core.Path.{refl, sym, ap, ◌∙◌}
use Prim.Native.Nat.{ℕ, ◌-◌, ◌%◌}
use borrow.Author.Rules.{rules}
use borrow.Author.Tests.{le-ltb}
use lib.ListN.{get_or}
use Rattle.arith.specs.Word.{not_of, neg_of}
use Rattle.arith.proofs.Remainders.{modulus-is}
use Rattle.expr.specs.Formula.{arity, known}
use Rattle.expr_eval.proofs.Checking.{check_start, check_low, check_unknown, check_constant, check_variable, check_not, check_neg, check_gate}
use Rattle.expr_eval.proofs.inner.eval_checked_over.Goals.{in-Constant, in-Variable+else-nv-k, in-Binary+else-sp-lt2, in-Not+else-sp-lt1, in-Neg+else-sp-lt1-2}
use Rattle.expr_eval.proofs.inner.eval_checked_over.Goals as goal

pub loop-i-init : goal.loop-i-init
loop-i-init c =
    let s = c.args in
    let p = c.requires in
    (refl, (search rules, check_start s.nv s.w s.words.now s.f.now.count s.f.now.ops.now s.f.now.operands.now p.1.0 p.1.1.0 p.1.1.1.0 _ p.1.1.1.1))

pub returns-then-nv-k : goal.returns-then-nv-k
unfolding known
returns-then-nv-k c =
    let s = c.args in
    let l = c.loop-i in
    check_unknown s.nv s.w s.words.now s.f.now.count s.f.now.ops.now s.f.now.operands.now l.stack l.sp l.i l.invariant.1.1 (search rules) c.token_at-t.result (sym c.token_at-t.ensures) (ap (known s.nv) c.in-Variable.is ∙ le-ltb _ s.nv c.if-nv-k.true)

pub returns-then-sp-lt2 : goal.returns-then-sp-lt2
unfolding arity
returns-then-sp-lt2 c =
    let s = c.args in
    let l = c.loop-i in
    check_low s.nv s.w s.words.now s.f.now.count s.f.now.ops.now s.f.now.operands.now l.stack l.sp l.i l.invariant.1.1 (search rules) c.token_at-t.result (sym c.token_at-t.ensures) 2 (ap arity c.in-Binary.is) c.if-sp-lt2.true

pub returns-then-sp-lt1 : goal.returns-then-sp-lt1
unfolding arity
returns-then-sp-lt1 c =
    let s = c.args in
    let l = c.loop-i in
    check_low s.nv s.w s.words.now s.f.now.count s.f.now.ops.now s.f.now.operands.now l.stack l.sp l.i l.invariant.1.1 (search rules) c.token_at-t.result (sym c.token_at-t.ensures) 1 (ap arity c.in-Not.is) c.if-sp-lt1.true

pub returns-then-sp-lt1-2 : goal.returns-then-sp-lt1-2
unfolding arity
returns-then-sp-lt1-2 c =
    let s = c.args in
    let l = c.loop-i in
    check_low s.nv s.w s.words.now s.f.now.count s.f.now.ops.now s.f.now.operands.now l.stack l.sp l.i l.invariant.1.1 (search rules) c.token_at-t.result (sym c.token_at-t.ensures) 1 (ap arity c.in-Neg.is) c.if-sp-lt1-2.true

pub loop-i-preserved : goal.loop-i-preserved
loop-i-preserved c =
    let s = c.args in
    let l = c.loop-i in
    elim c.match-t.branch [
      | in-Constant w ↦ rw (w.stack-is, w.sp-is) (search rules, (search rules, check_constant s.nv s.w s.words.now s.f.now.count s.f.now.ops.now s.f.now.operands.now l.stack l.sp l.i l.invariant.1.1 (search rules) c.token_at-t.result (sym c.token_at-t.ensures) w.reduce.result _ w.in-Constant.is (w.reduce.ensures ∙ ap (λ (m : ℕ). w.in-Constant.k % m) (modulus-is s.w c.requires.0))))
      | in-Variable+else-nv-k w ↦ rw (w.stack-is, w.sp-is) (search rules, (search rules, check_variable s.nv s.w s.words.now s.f.now.count s.f.now.ops.now s.f.now.operands.now l.stack l.sp l.i l.invariant.1.1 (search rules) c.token_at-t.result (sym c.token_at-t.ensures) w.reduce-in-Variable.result _ w.in-Variable.is (search rules) (w.reduce-in-Variable.ensures ∙ ap (λ (m : ℕ). get_or s.words.now w.in-Variable.k 0 % m) (modulus-is s.w c.requires.0))))
      | in-Binary+else-sp-lt2 w ↦ rw (w.stack-is, w.sp-is) (search rules, (search rules, check_gate s.nv s.w s.words.now s.f.now.count s.f.now.ops.now s.f.now.operands.now l.stack l.sp l.i l.invariant.1.1 (search rules) c.token_at-t.result (sym c.token_at-t.ensures) w.gate_apply_lane.result (l.sp - 1) (l.sp - 1 - 1) (search rules) (search rules) _ w.in-Binary.is w.gate_apply_lane.ensures))
      | in-Not+else-sp-lt1 w ↦ rw (w.stack-is, w.sp-is) (search rules, (search rules, check_not s.nv s.w s.words.now s.f.now.count s.f.now.ops.now s.f.now.operands.now l.stack l.sp l.i l.invariant.1.1 (search rules) c.token_at-t.result (sym c.token_at-t.ensures) w.mod_not.result (l.sp - 1) (search rules) w.in-Not.is (w.mod_not.ensures ∙ ap (λ (m : ℕ). not_of m (get_or l.stack (l.sp - 1) 0)) (modulus-is s.w c.requires.0))))
      | in-Neg+else-sp-lt1-2 w ↦ rw (w.stack-is, w.sp-is) (search rules, (search rules, check_neg s.nv s.w s.words.now s.f.now.count s.f.now.ops.now s.f.now.operands.now l.stack l.sp l.i l.invariant.1.1 (search rules) c.token_at-t.result (sym c.token_at-t.ensures) w.mod_neg.result (l.sp - 1) (search rules) w.in-Neg.is (w.mod_neg.ensures ∙ ap (λ (m : ℕ). neg_of m (get_or l.stack (l.sp - 1) 0)) (modulus-is s.w c.requires.0))))
    ]

pub returns-in-Bad : goal.returns-in-Bad
unfolding known
returns-in-Bad c =
    let s = c.args in
    let l = c.loop-i in
    check_unknown s.nv s.w s.words.now s.f.now.count s.f.now.ops.now s.f.now.operands.now l.stack l.sp l.i l.invariant.1.1 (search rules) c.token_at-t.result (sym c.token_at-t.ensures) (ap (known s.nv) c.in-Bad.is)
