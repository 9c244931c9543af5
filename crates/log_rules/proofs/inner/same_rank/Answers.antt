-- `log_rules::inner::same_rank` meets its contract: no earlier place so far has the rank. Assumes nothing.
use mathlib.Core.Path.{sym, ◌∙◌}
use Prim.Native.Nat.{ℕ}
use borrow.Author.Tests.{eq-eqb, ne_eqb}
use lib.Dec.{eqb}
use lib.ListN.{get_or}
use Rattle.log_rules.proofs.Tests.{any_at, any_none, below_more}
use borrow.Author.Rules.{rules}
use native.Mathlib.Omega.{arith}
use Rattle.log_rules.proofs.inner.same_rank.Goals as goal

pub loop-j-init : goal.loop-j-init
loop-j-init c = (search rules, λ t l. absurd (omega arith))

pub returns-then-ranks-j : goal.returns-then-ranks-j
returns-then-ranks-j c = let a = c.args in
    let l = c.loop-j in
    sym (any_at (λ (t : ℕ). eqb (get_or a.ranks.now t 0) (get_or a.ranks.now a.i 0)) a.i l.j (search rules) (eq-eqb _ _ (c.if-ranks-j.true ∙ l.invariant.0)))

pub loop-j-preserved : goal.loop-j-preserved
loop-j-preserved c = let a = c.args in
    let l = c.loop-j in
    (l.invariant.0, below_more (λ (t : ℕ). eqb (get_or a.ranks.now t 0) (get_or a.ranks.now a.i 0)) l.j l.invariant.1 (ne_eqb _ _ (λ e. c.if-ranks-j.false (e ∙ sym l.invariant.0))))

pub returns : goal.returns
returns c = let a = c.args in
    let l = c.loop-j in
    sym (any_none (λ (t : ℕ). eqb (get_or a.ranks.now t 0) (get_or a.ranks.now a.i 0)) a.i (λ t h. l.invariant.1 t (search rules)))
