-- Laws of answers: what a call says where it is turned back, and where it isn't. Assumes nothing.
use mathlib.Core.Path.{◌≡◌, sym, ap, ◌∙◌}
use Prim.Native.Nat.{ℕ, ◌<◌}
use native.Mathlib.Omega.{arith}
use Rattle.limits.specs.Refusal.{refused, answer, outcome, unless_refused, number_of}
use Rattle.limits.specs.declared.Refusal.{Refusal}
use Rattle.limits.specs.declared.Refusal.TheVariants.{VariableCount, Width, Limit, ShortArray, LargeWord, Formula, Claim, Order, Text, Window, Ranks}
use Rattle.limits.proofs.Refusals.{unless_refused_lem, unless_not}

-- no refusal has the number 0, which stands for none
pub number-positive : (r : Refusal) → 0 < number_of r
number-positive VariableCount = omega arith
number-positive Width = omega arith
number-positive Limit = omega arith
number-positive ShortArray = omega arith
number-positive LargeWord = omega arith
number-positive Formula = omega arith
number-positive Claim = omega arith
number-positive Order = omega arith
number-positive Text = omega arith
number-positive Window = omega arith
number-positive Ranks = omega arith

-- a call's answer where its chain of refusals told r, and where it told none
pub says_err : {A : Type 0} (r : Refusal) (n : ℕ) (v : A) → number_of r ≡ n → refused (number_of r) ≡ outcome n v
says_err r n v e =
    let h : 0 < n = let p = number-positive r in omega arith in
    ap refused e ∙ sym (unless_refused_lem n (answer v) (refused n) h)

pub says_ok : {A : Type 0} (n : ℕ) (v : A) → 0 ≡ n → answer v ≡ outcome n v
says_ok n v e = sym (unless_not n (answer v) (refused n) (sym e))

-- and what a lent array holds after it
pub unless_err : {A : Type 0} (r : Refusal) (n : ℕ) (a b : A) → number_of r ≡ n → unless_refused n a b ≡ b
unless_err r n a b e = unless_refused_lem n a b (let p = number-positive r in omega arith)

pub unless_ok : {A : Type 0} (n : ℕ) (a b : A) → 0 ≡ n → unless_refused n a b ≡ a
unless_ok n a b e = unless_not n a b (sym e)
