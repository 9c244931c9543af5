-- `bank_atom::inner::joined` meets its contract: the tokens of b that are passed stand after those of a. Assumes nothing.
use mathlib.Core.Path.{◌≡◌}
use lib.ListN.{length}
use Rattle.bank_atom.proofs.Texts as texts
use Rattle.bank_atom.proofs.inner.joined.Given as goal

abbrev pub invariant-loop-k : goal.invariant-loop-k
invariant-loop-k l =
    (length l.ops ≡ 6)
    × ((length l.operands ≡ 6)
    × (texts.Copied 255 l.a.len l.b.len l.a.ops l.b.ops l.ops l.k × texts.Copied 0 l.a.len l.b.len l.a.operands l.b.operands l.operands l.k))
