-- `load_text::inner::write_line` meets its contract: what was drawn is what is printed. Assumes nothing.
use mathlib.Core.Path.{ap}
use Prim.Native.Nat.{◌≤◌}
use Rattle.text_print.proofs.Decimals.{reads}
use Rattle.load_draw.specs.declared.DrawnFormula.{DrawnFormula}
use Rattle.load_draw.specs.Draw.{formula_from}
use Rattle.load_draw.proofs.Drawing.{form-most}
use Rattle.load_text.proofs.Lines.{line-is}
use native.Mathlib.Omega.{arith}
use Rattle.load_text.proofs.inner.write_line.Goals as goal

pub print_formula-next-requires : goal.print_formula-next-requires
print_formula-next-requires c =
    let few : c.draw-d.result.count ≤ 64
    = let l = c.args.load in let g = c.requires.1 in
    omega (arith, ap (λ (x : DrawnFormula). x.count) c.draw-d.ensures.value, form-most l.nv l.w l.limit c.args.state g.least, g.most) in
    let n = few in omega (arith, n)

pub returns : goal.returns
returns c =
    let few : c.draw-d.result.count ≤ 64
    = let l = c.args.load in let g = c.requires.1 in
    omega (arith, ap (λ (x : DrawnFormula). x.count) c.draw-d.ensures.value, form-most l.nv l.w l.limit c.args.state g.least, g.most) in
    let a = c.args in
    let l = a.load in record {
      wrote = reads (line-is (formula_from l.nv l.w l.limit a.state).form _ a.ops.now a.operands.now _ _ (ap (λ (x : DrawnFormula). x.count) c.draw-d.ensures.value) c.draw-d.ensures.ops_after c.draw-d.ensures.operands_after) c.print_formula-next.ensures.wrote;
      next_bound = (omega (arith, few, c.print_formula-next.ensures.upper_bound), ap (λ (x : DrawnFormula). x.state) c.draw-d.ensures.value);
    }
