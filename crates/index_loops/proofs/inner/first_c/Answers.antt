-- `index_loops::inner::first_c` meets its contract, gate by gate. Assumes nothing.
use mathlib.Core.Logic.{inl, inr}
use native.Mathlib.Numerals.{add-one}
use Rattle.index_spec.specs.Index.{first_c}
use Rattle.index_loops.proofs.inner.first_c.Goals as goal

pub returns-in-And : goal.returns-in-And
unfolding first_c
returns-in-And c = elim c.in-And.is [
  | inl e ↦ rw e (add-one _)
  | inr e ↦ rw e (add-one _)
]

pub returns-in-Xor : goal.returns-in-Xor
unfolding first_c
returns-in-Xor c = elim c.in-Xor.is [
  | inl e ↦ rw e
  | inr (inl e) ↦ rw e
  | inr (inr e) ↦ rw e
]
