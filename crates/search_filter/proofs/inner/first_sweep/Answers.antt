-- `search_filter::inner::first_sweep` meets its contract: 2^z keys are left, and the first is the least. Assumes nothing.
use mathlib.Core.Path.{refl}
use native.Mathlib.Omega.{arith}
use Rattle.arith.proofs.Remainders.{shl_one}
use Rattle.search_filter.proofs.Running.{key_first}
use Rattle.search_filter.proofs.inner.first_sweep.Goals as goal

pub returns : goal.returns
returns c =
    let all = shl_one 64 {w = c.args.class.zeros} (omega (arith, c.requires.few)) in
    record { at_first = refl; all_left = all; key_is = key_first c.args.class c.requires _ all }
