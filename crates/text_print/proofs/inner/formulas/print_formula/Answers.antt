-- `text_print::inner::formulas::print_formula` meets its contract: the first i tokens are written. Assumes nothing.
use mathlib.Core.Path.{ap}
use Prim.Native.Nat.{ℕ}
use native.Mathlib.Omega.{arith}
use borrow.Author.Rules.{rules}
use lib.ListN.{length-set}
use Rattle.text_print.specs.Text.{tokens_text, formula_line}
use Rattle.expr.specs.Formula.{tokens}
use Rattle.text_print.proofs.Decimals.{then, reads, one_more, nothing}
use Rattle.text_print.proofs.Listings.{token_more}
use Rattle.text_print.proofs.inner.formulas.print_formula.Goals as goal

pub loop-i-init : goal.loop-i-init
unfolding tokens_text tokens
loop-i-init c = (search rules, search rules, nothing)

pub loop-i-preserved : goal.loop-i-preserved
loop-i-preserved c = let a = c.args in (
  search rules,
  search rules,
  reads (token_more a.ops.now a.operands.now c.loop-i.i c.token_at.result c.token_at.ensures) (then c.loop-i.invariant.2 c.print_next-p.ensures.wrote),
)

pub shape_of-out : goal.shape_of-out
shape_of-out c = simp length-set (omega arith)

pub returns : goal.returns
unfolding formula_line
returns c = let a = c.args in record {
  wrote = reads (ap (λ (k : ℕ). formula_line (tokens k a.ops.now a.operands.now)) (search rules)) (one_more _ c.loop-i.invariant.2);
  upper_bound = omega arith;
}
