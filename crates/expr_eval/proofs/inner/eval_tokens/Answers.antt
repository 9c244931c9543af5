-- `expr_eval::inner::eval_tokens` meets its contract: the stack that it lends has room for every token. Assumes nothing.
use borrow.Author.Rules.{rules}
use lib.ListN.{length}
use Rattle.expr.proofs.Testing.{formula-short}
use Rattle.expr_eval.proofs.inner.eval_tokens.Goals as goal

pub eval_over-requires-2 : goal.eval_over-requires-2
eval_over-requires-2 c =
    let a = c.args in
    let short = formula-short (length a.words.now) a.count a.ops.now a.operands.now c.requires.formula in
    search rules
