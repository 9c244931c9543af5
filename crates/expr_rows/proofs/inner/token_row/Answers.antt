-- `expr_rows::inner::token_row` meets its contract: a law for each token. Assumes nothing.
use mathlib.Core.Path.{refl}
use mathlib.Core.Logic.{inl, inr}
use borrow.Author.Rules.{rules}
use Rattle.expr_rows.proofs.Tokens.{takes_one, takes_two, below-count, left-constant, left-variable, left-gate, left_not, left-neg, not-bad}
use Rattle.expr_rows.proofs.inner.token_row.Goals as goal

pub column-requires : goal.column-requires
column-requires c =
    (c.requires.narrow, (below-count _ c.args.nv _ c.in-Variable.is c.requires.may, (c.requires.few, c.requires.long)))

pub overflow_sub-sp : goal.overflow_sub-sp
overflow_sub-sp c = let n = takes_two _ c.args.sp _ c.in-Binary.is c.requires.there in search rules

pub load_row-a-requires : goal.load_row-a-requires
load_row-a-requires c = let n = takes_two _ c.args.sp _ c.in-Binary.is c.requires.there in search rules

pub overflow_sub-sp-in-Binary : goal.overflow_sub-sp-in-Binary
overflow_sub-sp-in-Binary c = let n = takes_two _ c.args.sp _ c.in-Binary.is c.requires.there in search rules

pub load_row-b-requires : goal.load_row-b-requires
load_row-b-requires c = let n = takes_two _ c.args.sp _ c.in-Binary.is c.requires.there in search rules

pub overflow_sub-sp-in-Not : goal.overflow_sub-sp-in-Not
overflow_sub-sp-in-Not c = let n = takes_one _ c.args.sp (inl c.in-Not.is) c.requires.there in search rules

pub load_row-b-requires-in-Not : goal.load_row-b-requires-in-Not
load_row-b-requires-in-Not c = let n = takes_one _ c.args.sp (inl c.in-Not.is) c.requires.there in search rules

pub overflow_sub-sp-in-Neg : goal.overflow_sub-sp-in-Neg
overflow_sub-sp-in-Neg c = let n = takes_one _ c.args.sp (inr c.in-Neg.is) c.requires.there in search rules

pub load_row-b-requires-in-Neg : goal.load_row-b-requires-in-Neg
load_row-b-requires-in-Neg c = let n = takes_one _ c.args.sp (inr c.in-Neg.is) c.requires.there in search rules

pub returns-in-Constant : goal.returns-in-Constant
returns-in-Constant c =
    left-constant c.args.w c.args.nv c.args.stack.now c.args.records.now c.args.sp _ c.requires.narrow c.requires.high _ c.reduce-x.result c.in-Constant.is c.reduce-x.ensures

pub returns-in-Variable : goal.returns-in-Variable
returns-in-Variable c =
    left-variable c.args.w c.args.nv c.args.stack.now c.args.records.now c.args.sp _ c.requires.narrow c.requires.high _ c.column.result c.in-Variable.is (below-count _ c.args.nv _ c.in-Variable.is c.requires.may) c.column.ensures

pub returns-in-Binary : goal.returns-in-Binary
returns-in-Binary c =
    left-gate c.args.w c.args.nv c.args.stack.now c.args.records.now c.args.sp _ c.requires.narrow c.requires.high _ c.load_row-a.result c.load_row-b.result c.gate_row.result c.in-Binary.is (takes_two _ c.args.sp _ c.in-Binary.is c.requires.there) c.load_row-a.ensures c.load_row-b.ensures c.gate_row.ensures

pub returns-in-Not : goal.returns-in-Not
returns-in-Not c =
    left_not c.args.w c.args.nv c.args.stack.now c.args.records.now c.args.sp _ c.requires.narrow c.requires.high (takes_one _ c.args.sp (inl c.in-Not.is) c.requires.there) c.bitmask-most.result c.load_row-b-in-Not.result c.residual_row.result c.load_row-b-in-Not.ensures c.residual_row.ensures c.in-Not.is c.bitmask-most.ensures

pub returns-in-Neg : goal.returns-in-Neg
returns-in-Neg c =
    left-neg c.args.w c.args.nv c.args.stack.now c.args.records.now c.args.sp _ c.requires.narrow c.requires.high (takes_one _ c.args.sp (inr c.in-Neg.is) c.requires.there) 0 c.load_row-b-in-Neg.result c.residual_row-in-Neg.result c.load_row-b-in-Neg.ensures c.residual_row-in-Neg.ensures c.in-Neg.is refl

pub returns-in-Bad : goal.returns-in-Bad
returns-in-Bad c = absurd (not-bad _ c.args.nv c.in-Bad.is c.requires.may)
