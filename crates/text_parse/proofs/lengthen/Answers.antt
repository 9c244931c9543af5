-- `text_parse::lengthen` meets its contract: a value that 10 times and a digit take to 2^64 or more stays there, so the word is no number whatever follows; else the word has one digit more. Assumes nothing.
use Rattle.std.proofs.Common.{refl, arith}
use Rattle.text_parse.specs.Steps.{joined}
use Rattle.text_parse.proofs.Readings.{digit_bounds, spoilt_by_value, longer}
use Rattle.text_parse.proofs.lengthen.Goals as goal

pub overflow_sub-digit : goal.overflow_sub-digit
overflow_sub-digit c = omega (arith, digit_bounds c.args.b c.requires)

pub returns-then-s-gt-VALUE_TENTH : goal.returns-then-s-gt-VALUE_TENTH
returns-then-s-gt-VALUE_TENTH c =
    λ clean numbers. spoilt_by_value (joined numbers c.args.s) _ c.args.b clean c.spoil.ensures c.requires (omega arith)

pub returns-then-digit-shifted : goal.returns-then-digit-shifted
returns-then-digit-shifted c =
    λ clean numbers. spoilt_by_value (joined numbers c.args.s) _ c.args.b clean c.spoil-then-digit-shifted.ensures c.requires (omega arith)

pub returns : goal.returns
returns c =
    λ clean numbers. longer (joined numbers c.args.s) _ c.args.b clean c.requires refl refl refl refl clean
