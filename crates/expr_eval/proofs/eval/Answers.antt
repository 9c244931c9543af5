-- `expr_eval::eval` meets its contract: what is left meets what the evaluator asks. Assumes nothing.
use mathlib.Core.Path.{sym, ◌∙◌}
use lib.ListN.{length}
use Rattle.limits.proofs.Refusals.{within}
use Rattle.expr.specs.Formula.{tokens}
use Rattle.expr.proofs.Machine.{formula-more}
use Rattle.expr_eval.proofs.eval.Goals as goal

pub eval_tokens-requires : goal.eval_tokens-requires
eval_tokens-requires c =
    let s = c.args in
    record {
      width = (within 1 64 s.w (sym c.bad_width.ensures ∙ c.if-bad_width.false)).most;
      formula = formula-more s.nv (length s.words.now) c.if-words-nv.false (tokens s.token_count s.ops.now s.operands.now) (sym c.is_formula.ensures ∙ c.if-not-is_formula.false);
    }
