-- The row that each token leaves. Assumes nothing.
use mathlib.Core.Path.{◌≡◌, sym, ap, ◌∙◌, subst}
use mathlib.Core.Logic.{◌⊎◌, inl, inr}
use mathlib.Core.Bool.{true}
use mathlib.Core.List.{List}
use Prim.Native.Nat.{ℕ, ◌+◌, ◌-◌, ◌*◌, ◌%◌, ◌^◌, ◌≤◌, ◌<◌}
use native.Mathlib.Omega.{arith}
use borrow.Author.Tests.{ltb-true}
use lib.ListN.{length, get_or, replicate, length-replicate, get_or-replicate}
use lib.Pow.{pow_pos}
use Rattle.arith.specs.Word.{modulus, sub_of}
use Rattle.arith.proofs.Remainders.{modulus-is, sub-from-most, sub-from_zero}
use Rattle.arrays.specs.Parts.{part_at}
use Rattle.arrays.proofs.Parts.{length-part, get_d_part}
use Rattle.limits.proofs.Refusals.{true_not_false}
use Rattle.row_gates.specs.declared.Gate.{Gate}
use Rattle.row_gates.specs.declared.Gate.TheVariants.{Add}
use Rattle.row_gates.specs.Gates.{gate_of, gate_row, residual_of, residual_row}
use Rattle.row_gates.proofs.Rows.{get_or-gate_row, get_or-residual_row}
use Rattle.expr.specs.declared.Token.{Token}
use Rattle.expr.specs.declared.Token.TheVariants.{Constant, Variable, Binary, Not, Neg, Bad}
use Rattle.expr.specs.Formula.{arity, known}
use Rattle.expr_eval.specs.Value.{value_alg}
use Rattle.expr_rows.specs.Rows.{leaves}

-- ---- what a token asks, by its kind
pub takes_two : (t : Token) (sp : ℕ) (g : Gate) → t ≡ Binary g → arity t ≤ sp → 2 ≤ sp
unfolding arity
takes_two t sp g e h = subst (λ (u : Token). arity u ≤ sp) e h

pub takes_one : (t : Token) (sp : ℕ) → (t ≡ Not) ⊎ (t ≡ Neg) → arity t ≤ sp → 1 ≤ sp
unfolding arity
takes_one t sp (inl e) h = subst (λ (u : Token). arity u ≤ sp) e h
takes_one t sp (inr e) h = subst (λ (u : Token). arity u ≤ sp) e h

pub below-count : (t : Token) (nv k : ℕ) → t ≡ Variable k → known nv t ≡ true → k < nv
unfolding known
below-count t nv k e h = ltb-true k nv (ap (known nv) (sym e) ∙ h)

pub not-bad : (t : Token) (nv : ℕ) → t ≡ Bad → known nv t ≡ true → ⊥
unfolding known
not-bad t nv e h = true_not_false (sym h ∙ ap (known nv) e)

-- ---- what it leaves
module _ (w nv : ℕ) (stack records : List ℕ) (sp : ℕ) (t : Token) (narrow : w ≤ 64) (high : 16 * sp ≤ length stack) where
  -- the row has in each lane what the token leaves
  abbrev pub Left : List ℕ → Type 0
  Left row = (j : ℕ) → j < 16 → get_or row j 0 ≡ leaves (value_alg w (part_at nv records j)) t (get_or stack (16 * (sp - 2) + j) 0) (get_or stack (16 * (sp - 1) + j) 0)

  -- what the token leaves is what an equal one does
  alike : (u : Token) → t ≡ u → (v j : ℕ) → v ≡ leaves (value_alg w (part_at nv records j)) u (get_or stack (16 * (sp - 2) + j) 0) (get_or stack (16 * (sp - 1) + j) 0)
      → v ≡ leaves (value_alg w (part_at nv records j)) t (get_or stack (16 * (sp - 2) + j) 0) (get_or stack (16 * (sp - 1) + j) 0)
  alike u e v j h = h ∙ ap (λ (y : Token). leaves (value_alg w (part_at nv records j)) y (get_or stack (16 * (sp - 2) + j) 0) (get_or stack (16 * (sp - 1) + j) 0)) (sym e)

  pub left-constant : (k x : ℕ) → t ≡ Constant k → x ≡ k % modulus w → Left (replicate 16 x)
  unfolding leaves value_alg
  left-constant k x e v j h = alike (Constant k) e _ j (get_or-replicate 16 j x 0 h ∙ v ∙ ap (λ (m : ℕ). k % m) (modulus-is w narrow))

  pub left-variable : (k : ℕ) (row : List ℕ) → t ≡ Variable k → k < nv → ((j : ℕ) → j < 16 → get_or row j 0 ≡ get_or records (nv * j + k) 0 % 2 ^ w) → Left row
  unfolding leaves value_alg
  left-variable k row e b v j h = alike (Variable k) e _ j (v j h ∙ ap (λ (x : ℕ). x % 2 ^ w) (sym (get_d_part nv records j k b)))

  -- a row of the stack
  module _ (k : ℕ) (there : k + 1 ≤ sp) where
    loaded_long : length (part_at 16 stack k) ≡ 16
    loaded_long = length-part 16 stack k (omega arith)

    loaded_at : (b : List ℕ) → b ≡ part_at 16 stack k → (j : ℕ) → j < 16 → (j < length b) × (get_or b j 0 ≡ get_or stack (16 * k + j) 0)
    loaded_at b e j h = (omega (arith, ap length e, loaded_long), ap (λ (l : List ℕ). get_or l j 0) e ∙ get_d_part 16 stack k j h)

  pub left-gate : (g : Gate) (a b row : List ℕ) → t ≡ Binary g → 2 ≤ sp → a ≡ part_at 16 stack (sp - 2) → b ≡ part_at 16 stack (sp - 1) → row ≡ gate_row g w a b → Left row
  unfolding leaves value_alg
  left-gate g a b row e two ea eb er j h =
      let x = loaded_at (sp - 2) (omega arith) a ea j h in
      let y = loaded_at (sp - 1) (omega arith) b eb j h in
      alike (Binary g) e _ j (ap (λ (l : List ℕ). get_or l j 0) er ∙ get_or-gate_row g w a b j x.0 y.0 ∙ (λ i. gate_of g w (x.1 i) (y.1 i)))

  -- a difference from a row of one word
  module _ (one : 1 ≤ sp) (x : ℕ) (b row : List ℕ) (eb : b ≡ part_at 16 stack (sp - 1)) (er : row ≡ residual_row Add w (replicate 16 x) b) where
    difference : (j : ℕ) → j < 16 → get_or row j 0 ≡ sub_of (2 ^ w) x (get_or stack (16 * (sp - 1) + j) 0)
    unfolding residual_of
    difference j h =
        let y = loaded_at (sp - 1) (omega arith) b eb j h in
        ap (λ (l : List ℕ). get_or l j 0) er
        ∙ get_or-residual_row Add w (replicate 16 x) b j (omega (arith, length-replicate 16 x)) y.0
        ∙ (λ i. sub_of (2 ^ w) (get_or-replicate 16 j x 0 h i) (y.1 i))

    pub left_not : t ≡ Not → x ≡ modulus w - 1 → Left row
    unfolding leaves value_alg
    left_not e v j h =
        alike Not e _ j
        (difference j h
        ∙ ap (λ (n : ℕ). sub_of (2 ^ w) n (get_or stack (16 * (sp - 1) + j) 0)) (v ∙ ap (λ (m : ℕ). m - 1) (modulus-is w narrow))
        ∙ sub-from-most (2 ^ w) (get_or stack (16 * (sp - 1) + j) 0) (pow_pos w))

    pub left-neg : t ≡ Neg → x ≡ 0 → Left row
    unfolding leaves value_alg
    left-neg e v j h =
        alike Neg e _ j
        (difference j h ∙ ap (λ (n : ℕ). sub_of (2 ^ w) n (get_or stack (16 * (sp - 1) + j) 0)) v ∙ sub-from_zero (2 ^ w) (get_or stack (16 * (sp - 1) + j) 0))
