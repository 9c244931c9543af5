-- `search_product_atoms::inner::copy_firsts` meets its contract: the words passed are copied. Assumes nothing.
use mathlib.Core.Path.{◌≡◌}
use lib.ListN.{length}
use Rattle.arrays.proofs.Fill.{Filled}
use Rattle.index_order.specs.Order.{first_word}
use Rattle.search_product_atoms.proofs.inner.copy_firsts.Given as goal

abbrev pub invariant-loop-k : goal.invariant-loop-k
invariant-loop-k l = (length l.firsts ≡ length l.initial.firsts) × Filled (first_word l.atoms) l.firsts l.k
