-- `text_print::inner::formulas::print_formulas` meets its contract: the first k formulas are written. Assumes nothing.
use mathlib.Core.Path.{ap}
use native.Mathlib.Omega.{arith}
use borrow.Author.Rules.{rules}
use Rattle.text_print.specs.Printing.{lines_text, formula_at}
use Rattle.text_print.proofs.Decimals.{reads}
use Rattle.text_print.proofs.Listings.{no_lines, line-more, formula-at}
use Rattle.text_print.proofs.inner.formulas.print_formulas.Goals as goal

pub loop-k-init : goal.loop-k-init
loop-k-init c = (search rules, search rules, no_lines _)

pub overflow_cast-count : goal.overflow_cast-count
overflow_cast-count c = omega (arith, c.type_inv.lengths c.loop-k.k)

pub print_formula-p-requires : goal.print_formula-p-requires
print_formula-p-requires c = omega (arith, c.requires.1.short c.loop-k.k (search rules))

pub loop-k-preserved : goal.loop-k-preserved
loop-k-preserved c = let a = c.args in
    let k = c.loop-k.k in (
      search rules,
      omega (arith, c.print_formula-p.ensures.upper_bound, c.requires.1.short k (search rules)),
      line-more (formula_at a.lengths.now a.ops.now a.operands.now) k c.loop-k.invariant.2 (reads (formula-at a.lengths.now a.ops.now a.operands.now k) c.print_formula-p.ensures.wrote),
    )

pub returns : goal.returns
returns c = record {
  wrote = reads (ap (lines_text (formula_at c.args.lengths.now c.args.ops.now c.args.operands.now)) (search rules)) c.loop-k.invariant.2;
  upper_bound = search rules;
}
