-- `text_print::inner::decimal::digits_of` meets its contract: the pairs in their lanes, and in each its digits. Assumes nothing.
use native.Mathlib.Omega.{arith}
use Prim.Native.Nat.{◌/◌, ◌%◌, ◌^◌, ◌<◌}
use Rattle.text_print.proofs.Lanes.{pairs_of, pairs_below, digits-left, digits-fit}
use Rattle.text_print.proofs.inner.decimal.digits_of.Goals as goal

pub overflow_add-pairs-2 : goal.overflow_add-pairs-2
overflow_add-pairs-2 c =
    let small : pairs_of (c.args.x / 10000) (c.args.x % 10000) < 2 ^ 55
    = pairs_below (c.args.x / 10000) (c.args.x % 10000) (omega arith) (omega arith) in
    omega (arith, small)

pub overflow_mul-result : goal.overflow_mul-result
overflow_mul-result c =
    let small : pairs_of (c.args.x / 10000) (c.args.x % 10000) < 2 ^ 55
    = pairs_below (c.args.x / 10000) (c.args.x % 10000) (omega arith) (omega arith) in
    omega (arith, small)

pub overflow_add-result : goal.overflow_add-result
overflow_add-result c =
    let small : pairs_of (c.args.x / 10000) (c.args.x % 10000) < 2 ^ 55
    = pairs_below (c.args.x / 10000) (c.args.x % 10000) (omega arith) (omega arith) in
    omega (arith, small)

pub tens_of-requires : goal.tens_of-requires
tens_of-requires c =
    let small : pairs_of (c.args.x / 10000) (c.args.x % 10000) < 2 ^ 55
    = pairs_below (c.args.x / 10000) (c.args.x % 10000) (omega arith) (omega arith) in
    omega (arith, small)

pub overflow_mul-result-3 : goal.overflow_mul-result-3
overflow_mul-result-3 c = record { fits = digits-fit (c.args.x / 10000) (c.args.x % 10000) c.tens_of.result (omega arith) (omega arith) c.tens_of.ensures }

pub overflow_sub-result-2 : goal.overflow_sub-result-2
overflow_sub-result-2 c = (digits-left (c.args.x / 10000) (c.args.x % 10000) c.tens_of.result (omega arith) (omega arith) c.tens_of.ensures).0

pub returns : goal.returns
returns c = (digits-left (c.args.x / 10000) (c.args.x % 10000) c.tens_of.result (omega arith) (omega arith) c.tens_of.ensures).1
