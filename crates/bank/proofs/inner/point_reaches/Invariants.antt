-- `bank::inner::point_reaches` meets its contract: the words passed are below 2 ^ w. Assumes nothing.
use mathlib.Core.Path.{◌≡◌}
use Prim.Native.Nat.{◌-◌, ◌^◌}
use lib.ListN.{take, drop}
use Rattle.arith.specs.Word.{modulus}
use Rattle.row_lent.specs.Range.{reaches}
use Rattle.bank.proofs.inner.point_reaches.Given as goal

abbrev pub invariant-loop-i : goal.invariant-loop-i
invariant-loop-i l =
    (l.mask ≡ modulus l.w - 1) × (reaches (2 ^ l.w) (drop l.i (take l.nv l.p.words)) ≡ reaches (2 ^ l.w) (take l.nv l.p.words))
