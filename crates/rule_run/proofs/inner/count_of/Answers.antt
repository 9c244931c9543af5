-- `rule_run::inner::count_of` meets its contract: the ones among the lowest W - 1 bits, and the mark. Assumes nothing.
use Rattle.std.proofs.Common.{◌≡◌, ℕ, ◌+◌, ◌-◌, ◌%◌, ◌^◌, ◌≤◌, sym, ap, ◌∙◌, subst, arith}
use lib.Count.{ones}
use Rattle.arith.proofs.Remainders.{modulus-is}
use Rattle.rule_run.proofs.Counting.{ones_sum, ones_few}
use Rattle.rule_run.proofs.inner.count_of.Goals as goal

pub overflow_cast-result : goal.overflow_cast-result
overflow_cast-result c =
    let kept : c.reduce-before.result ≡ c.args.past % 2 ^ (c.args.window - 1)
    = c.reduce-before.ensures ∙ ap (λ (m : ℕ). c.args.past % m) (modulus-is (c.args.window - 1) (omega (arith, c.requires.1.0))) in
    let few : ones c.reduce-before.result ≤ 64
    = subst (λ (x : ℕ). ones x ≤ 64) (sym kept) (ones_few (c.args.window - 1) c.args.past (omega (arith, c.requires.1.0))) in
    omega (arith, few)

pub overflow_add-result : goal.overflow_add-result
overflow_add-result c =
    let kept : c.reduce-before.result ≡ c.args.past % 2 ^ (c.args.window - 1)
    = c.reduce-before.ensures ∙ ap (λ (m : ℕ). c.args.past % m) (modulus-is (c.args.window - 1) (omega (arith, c.requires.1.0))) in
    let few : ones c.reduce-before.result ≤ 64
    = subst (λ (x : ℕ). ones x ≤ 64) (sym kept) (ones_few (c.args.window - 1) c.args.past (omega (arith, c.requires.1.0))) in
    omega (arith, few, c.requires.1.1)

pub returns : goal.returns
returns c =
    let kept : c.reduce-before.result ≡ c.args.past % 2 ^ (c.args.window - 1)
    = c.reduce-before.ensures ∙ ap (λ (m : ℕ). c.args.past % m) (modulus-is (c.args.window - 1) (omega (arith, c.requires.1.0))) in
    let a = c.args in ap (λ (x : ℕ). x + a.mark) (ap ones kept ∙ ones_sum (a.window - 1) a.past)
