-- `rule_run::inner::feed` meets its contract: the next answer, and the next state. Assumes nothing.
use Rattle.std.proofs.Common.{ℕ, ◌+◌, ◌-◌, ◌%◌, ◌^◌, ◌≤◌, cond, leb, sym, ap, ◌∙◌, subst}
use Rattle.rule_run.specs.Window.{sum_below}
use Rattle.arith.specs.Word.{bit_of}
use Rattle.rule_run.proofs.Counting.{mark-low}
use Rattle.rule_run.proofs.Feeding.{fed_more}
use Rattle.rule_run.proofs.inner.feed.Goals as goal

pub count_of-requires : goal.count_of-requires
count_of-requires c = (c.requires.1.0, (c.requires.1.1, subst (λ (n : ℕ). n ≤ 1) (sym c.mark_of-mark.ensures) (mark-low c.args.value)))

pub returns : goal.returns
returns c =
    let a = c.args in
    λ mark t old e f.
    let same = c.mark_of-mark.ensures ∙ sym e in
    fed_more mark t a.m a.window old a.at a.answers.now a.past f c.requires.1.0 c.requires.1.1 c.requires.0 c.answer_of.result c.with_mark.result
    (c.answer_of.ensures ∙ ap (λ (n : ℕ). cond (leb a.m n) 1 0) (c.count_of.ensures ∙ ap (λ (n : ℕ). sum_below (a.window - 1) (bit_of a.past) + n) same))
    (c.with_mark.ensures ∙ ap (λ (n : ℕ). (a.past + a.past + n) % 2 ^ 64) same)
