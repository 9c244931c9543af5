-- `row_lent::inner::row_reaches` meets its contract: the words passed are below 2 ^ w. Assumes nothing.
use mathlib.Core.Path.{◌≡◌}
use Prim.Native.Nat.{◌-◌, ◌^◌}
use lib.ListN.{drop}
use Rattle.arith.specs.Word.{modulus}
use Rattle.row_lent.specs.Range.{reaches}
use Rattle.row_lent.proofs.inner.row_reaches.Given as goal

abbrev pub invariant-loop-j : goal.invariant-loop-j
invariant-loop-j l = (l.mask ≡ modulus l.w - 1) × (reaches (2 ^ l.w) (drop l.j l.row) ≡ reaches (2 ^ l.w) l.row)
