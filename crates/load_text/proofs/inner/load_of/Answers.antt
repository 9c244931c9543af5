-- `load_text::inner::load_of` meets its contract: the numbers are in range, so each fits its field. Assumes nothing.
use lib.ListN.{get_or}
use Rattle.load_text.proofs.Refusing.{fit}
use native.Mathlib.Omega.{arith}
use Rattle.load_text.proofs.inner.load_of.Goals as goal

pub overflow_cast-result : goal.overflow_cast-result
overflow_cast-result c = omega (arith, (fit (get_or c.args.numbers 1 0) (get_or c.args.numbers 2 0) (get_or c.args.numbers 3 0) c.requires).vars.most)

pub overflow_cast-result-2 : goal.overflow_cast-result-2
overflow_cast-result-2 c = omega (arith, (fit (get_or c.args.numbers 1 0) (get_or c.args.numbers 2 0) (get_or c.args.numbers 3 0) c.requires).width.most)
