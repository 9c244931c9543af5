-- `bank_atom::inner::constant` meets its contract: its word is the same at every point. Assumes nothing.
use mathlib.Core.Path.{ap, ◌∙◌}
use Prim.Native.Nat.{ℕ, ◌%◌}
use Rattle.arith.proofs.Remainders.{modulus-is}
use Rattle.bank_atom.proofs.Making.{constant-is}
use Rattle.bank_atom.proofs.inner.constant.Goals as goal

pub returns : goal.returns
returns c =
    let s = c.args in
    constant-is s.w s.v c.reduce-word.result c.leaf.result
    (c.reduce-word.ensures ∙ ap (λ (m : ℕ). s.v % m) (modulus-is s.w c.requires))
    c.leaf.ensures
