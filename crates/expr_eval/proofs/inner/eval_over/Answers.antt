-- `expr_eval::inner::eval_over` meets its contract: reading the rest over what the array holds gives the value. Assumes nothing.
use mathlib.Core.Path.{◌≡◌, refl, sym, ap, ◌∙◌}
use mathlib.Core.Logic.{◌⊎◌, inl, inr}
use mathlib.Core.List.{List}
use Prim.Native.Nat.{ℕ, ◌-◌, ◌%◌, ◌≤◌, ◌<◌}
use borrow.Author.Rules.{rules}
use lib.ListN.{get_or}
use Rattle.arith.specs.Word.{not_of, neg_of}
use Rattle.arith.proofs.Remainders.{modulus-is}
use Rattle.row_gates.specs.declared.Gate.{Gate}
use Rattle.expr.specs.declared.Token.{Token}
use Rattle.expr.specs.declared.Token.TheVariants.{Binary, Not, Neg}
use Rattle.expr.specs.Formula.{token_at}
use Rattle.expr_eval.proofs.Stack.{Stage, stage_start, stage_constant, stage_variable, stage_not, stage_neg, stage_gate, stage_unary, stage_binary}
use Rattle.expr_eval.proofs.inner.eval_over.Goals.{in-Constant, in-Variable, in-Binary, in-Not, in-Neg}
use Rattle.expr_eval.proofs.inner.eval_over.Goals as goal

-- ---- what the token at hand tells: how many values the stack has
module _ {w : ℕ} {words : List ℕ} {count : ℕ} {ops operands arr : List ℕ} {sp i : ℕ} {t : Token} (s : Stage w words count ops operands arr sp i) (h : i < count) (e : t ≡ token_at ops operands i) where
  one : (t ≡ Not) ⊎ (t ≡ Neg) → 1 ≤ sp
  one v = stage_unary w words count ops operands arr sp i s h t (sym e) v

  two : {g : Gate} → t ≡ Binary g → 2 ≤ sp
  two v = stage_binary w words count ops operands arr sp i s h t (sym e) _ v

pub loop-i-init : goal.loop-i-init
loop-i-init c =
    let s = c.args in
    (refl, stage_start s.w s.words.now s.f.now.count s.f.now.ops.now s.f.now.operands.now _ (search rules) c.requires.0.formula)

pub loop-i-preserved : goal.loop-i-preserved
loop-i-preserved c =
    let s = c.args in
    let l = c.loop-i in
    elim c.match-t.branch [
      | in-Constant w ↦ rw (w.stack-is, w.sp-is) (search rules, stage_constant s.w s.words.now s.f.now.count s.f.now.ops.now s.f.now.operands.now l.stack l.sp l.i l.invariant.1 (search rules) c.token_at-t.result (sym c.token_at-t.ensures) w.reduce.result _ w.in-Constant.is (w.reduce.ensures ∙ ap (λ (m : ℕ). w.in-Constant.k % m) (modulus-is s.w c.requires.0.width)))
      | in-Variable w ↦ rw (w.stack-is, w.sp-is) (search rules, stage_variable s.w s.words.now s.f.now.count s.f.now.ops.now s.f.now.operands.now l.stack l.sp l.i l.invariant.1 (search rules) c.token_at-t.result (sym c.token_at-t.ensures) w.reduce-in-Variable.result _ w.in-Variable.is (w.reduce-in-Variable.ensures ∙ ap (λ (m : ℕ). get_or s.words.now w.in-Variable.k 0 % m) (modulus-is s.w c.requires.0.width)))
      | in-Binary w ↦ rw (w.stack-is, w.sp-is) (let n = two c.loop-i.invariant.1 c.loop-i-test.true c.token_at-t.ensures w.in-Binary.is in (search rules, stage_gate s.w s.words.now s.f.now.count s.f.now.ops.now s.f.now.operands.now l.stack l.sp l.i l.invariant.1 (search rules) c.token_at-t.result (sym c.token_at-t.ensures) w.gate_apply_lane.result (l.sp - 1) (l.sp - 1 - 1) (search rules) (search rules) _ w.in-Binary.is w.gate_apply_lane.ensures))
      | in-Not w ↦ rw (w.stack-is, w.sp-is) (let n = one c.loop-i.invariant.1 c.loop-i-test.true c.token_at-t.ensures (inl w.in-Not.is) in (search rules, stage_not s.w s.words.now s.f.now.count s.f.now.ops.now s.f.now.operands.now l.stack l.sp l.i l.invariant.1 (search rules) c.token_at-t.result (sym c.token_at-t.ensures) w.mod_not.result (l.sp - 1) (search rules) w.in-Not.is (w.mod_not.ensures ∙ ap (λ (m : ℕ). not_of m (get_or l.stack (l.sp - 1) 0)) (modulus-is s.w c.requires.0.width))))
      | in-Neg w ↦ rw (w.stack-is, w.sp-is) (let n = one c.loop-i.invariant.1 c.loop-i-test.true c.token_at-t.ensures (inr w.in-Neg.is) in (search rules, stage_neg s.w s.words.now s.f.now.count s.f.now.ops.now s.f.now.operands.now l.stack l.sp l.i l.invariant.1 (search rules) c.token_at-t.result (sym c.token_at-t.ensures) w.mod_neg.result (l.sp - 1) (search rules) w.in-Neg.is (w.mod_neg.ensures ∙ ap (λ (m : ℕ). neg_of m (get_or l.stack (l.sp - 1) 0)) (modulus-is s.w c.requires.0.width))))
    ]
