-- Laws of the residual rows' numbers: which gate and which atom each has. Assumes nothing.
use mathlib.Core.Path.{◌≡◌, ap, ap₂, ◌∙◌}
use mathlib.Core.Bool.{Bool, cond}
use mathlib.Core.List.{List}
use Prim.Native.Nat.{ℕ, ◌-◌, ◌*◌, ◌≤◌, ◌<◌}
use native.Mathlib.Omega.{arith}
use borrow.Author.Tests.{lt-ltb, le-ltb}
use Rattle.row_gates.specs.declared.Gate.{Gate}
use Rattle.row_gates.specs.declared.Gate.TheVariants.{Xor, Add}
use Rattle.search_residual_trial.specs.Trying.{completing}
use Rattle.search_residual_trial.specs.Steps.{outer_at, atom_at, wanted}

module _ (count t : ℕ) where
  pub outer_add : t < count → outer_at count t ≡ Add
  outer_add h = ap (λ (b : Bool). cond b Add Xor) (lt-ltb t count h)

  pub outer_xor : count ≤ t → outer_at count t ≡ Xor
  outer_xor h = ap (λ (b : Bool). cond b Add Xor) (le-ltb t count h)

  pub atom-add : t < count → atom_at count t ≡ count - 1 - t
  atom-add h = ap (λ (b : Bool). cond b (count - 1 - t) (2 * count - 1 - t)) (lt-ltb t count h)

  pub atom_xor : count ≤ t → atom_at count t ≡ 2 * count - 1 - t
  atom_xor h = ap (λ (b : Bool). cond b (count - 1 - t) (2 * count - 1 - t)) (le-ltb t count h)

-- the number of atom a under each gate
module _ (w count : ℕ) (atoms target : List ℕ) (a : ℕ) (h : a < count) where
  pub wanted_xor : wanted w count atoms target (2 * count - a - 1) ≡ completing Xor w target atoms a
  unfolding wanted
  wanted_xor =
      let back : 2 * count - 1 - (2 * count - a - 1) ≡ a = omega arith in
      ap₂ (λ (g : Gate) (k : ℕ). completing g w target atoms k) (outer_xor count (2 * count - a - 1) (omega arith)) (atom_xor count (2 * count - a - 1) (omega arith) ∙ back)

  pub wanted-add : wanted w count atoms target (count - a - 1) ≡ completing Add w target atoms a
  unfolding wanted
  wanted-add =
      let back : count - 1 - (count - a - 1) ≡ a = omega arith in
      ap₂ (λ (g : Gate) (k : ℕ). completing g w target atoms k) (outer_add count (count - a - 1) (omega arith)) (atom-add count (count - a - 1) (omega arith) ∙ back)
