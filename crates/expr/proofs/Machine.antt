-- The stack machine: what one token does, at any algebra and at the one that only counts values; the formula test, and what passing it tells. Assumes nothing.
use mathlib.Core.Path.{◌≡◌, refl, sym, ap, ap₂, ◌∙◌}
use mathlib.Core.Bool.{Bool, true, false, not, ◌&&◌, and-false}
use mathlib.Core.List.{List, [], ◌∷◌, ◌++◌}
use mathlib.Core.Option.{Option, none, some}
use Prim.Native.Nat.{ℕ, zero, suc, ◌+◌, ◌-◌, ◌≤◌, ◌<◌}
use native.Mathlib.Omega.{arith}
use borrow.Author.Tests.{lt-ltb, le-ltb, ne_eqb, ltb-true}
use lib.Dec.{eqb}
use lib.ListN.{length}
use Rattle.limits.specs.Refusal.{outside_of}
use Rattle.limits.proofs.Refusals.{and_left, and_right, and_both, true_not_false, within}
use Rattle.expr.specs.declared.Token.{Token}
use Rattle.expr.specs.declared.Token.TheVariants.{Constant, Variable, Binary, Not, Neg, Bad}
use Rattle.expr.specs.Formula.{Alg, step, run, only, whole, Mark, mark_alg, is_some, leaves_one, known, all_known, is_formula, arity}
use Rattle.expr.specs.Formula.Mark.{mark}

pub none≢some : {A : Type 0} {a : A} → ◌≡◌ {A = Option A} none (some a) → ⊥
none≢some {a} e = let z : ◌≡◌ {A = ℕ} 0 1 = cc in omega arith

-- ---- one token
module _ {A : Type 0} (m : Alg A) (t : Token) (ts : List Token) (st : List A) where
  after : (e : Option (List A)) → step m t st ≡ e → run m (t ∷ ts) st ≡ elim e as (λ (x : Option (List A)). Option (List A)) [ none ↦ none | some next ↦ run m ts next ]
  unfolding run
  after e p = ap (λ (x : Option (List A)). elim x as (λ (y : Option (List A)). Option (List A)) [ none ↦ none | some next ↦ run m ts next ]) p

  pub run-some : (next : List A) → step m t st ≡ some next → run m (t ∷ ts) st ≡ run m ts next
  run-some next e = after (some next) e

  pub run_none : step m t st ≡ none → run m (t ∷ ts) st ≡ none
  run_none e = after none e

-- ---- counting
unfoldable pub marks : ℕ → List Mark
marks zero = []
marks (suc n) = mark ∷ marks n

-- how many values are left does not depend on what they are
shape : {A : Type 0} → Option (List A) → Option (List Mark)
shape none = none
shape (some st) = some (marks (length st))

run_shape : {A : Type 0} (m : Alg A) (ts : List Token) (st : List A) → run mark_alg ts (marks (length st)) ≡ shape (run m ts st)
unfolding run step marks shape mark_alg
run_shape m [] st = refl
run_shape m (Constant k ∷ ts) st = run_shape m ts (m.on_constant k ∷ st)
run_shape m (Variable i ∷ ts) st = run_shape m ts (m.on_variable i ∷ st)
run_shape m (Not ∷ ts) [] = refl
run_shape m (Not ∷ ts) (a ∷ st) = run_shape m ts (m.on_not a ∷ st)
run_shape m (Neg ∷ ts) [] = refl
run_shape m (Neg ∷ ts) (a ∷ st) = run_shape m ts (m.on_neg a ∷ st)
run_shape m (Binary g ∷ ts) [] = refl
run_shape m (Binary g ∷ ts) (b ∷ []) = refl
run_shape m (Binary g ∷ ts) (b ∷ (a ∷ st)) = run_shape m ts (m.on_gate g a b ∷ st)
run_shape m (Bad ∷ ts) st = refl

only_shape : {A : Type 0} (x : Option (List A)) → is_some (only (shape x)) ≡ is_some (only x)
unfolding only shape marks
only_shape none = refl
only_shape (some []) = refl
only_shape (some (a ∷ [])) = refl
only_shape (some (a ∷ (b ∷ st))) = refl

-- one value is left at one algebra exactly if it is at every other
pub leaves-one_any : {A : Type 0} (m : Alg A) (ts : List Token) → leaves_one ts ≡ is_some (whole m ts)
unfolding leaves_one whole marks
leaves-one_any m ts = ap (λ (x : Option (List Mark)). is_some (only x)) (run_shape m ts []) ∙ only_shape (run m ts [])

pub step-low : (t : Token) (d : ℕ) → d < arity t → step mark_alg t (marks d) ≡ none
unfolding step marks arity mark_alg
step-low (Constant k) d h = absurd (omega arith)
step-low (Variable i) d h = absurd (omega arith)
step-low (Binary g) zero h = refl
step-low (Binary g) (suc zero) h = refl
step-low (Binary g) (suc (suc d)) h = absurd (omega arith)
step-low Not zero h = refl
step-low Not (suc d) h = absurd (omega arith)
step-low Neg zero h = refl
step-low Neg (suc d) h = absurd (omega arith)
step-low Bad d h = absurd (omega arith)

pub step_ok : (nv : ℕ) (t : Token) (d : ℕ) → known nv t ≡ true → arity t ≤ d → step mark_alg t (marks d) ≡ some (marks (d - arity t + 1))
unfolding step marks arity mark_alg known
step_ok nv (Constant k) d h l = let e : suc d ≡ d - 0 + 1 = omega arith in ap (λ (n : ℕ). some (marks n)) e
step_ok nv (Variable i) d h l = let e : suc d ≡ d - 0 + 1 = omega arith in ap (λ (n : ℕ). some (marks n)) e
step_ok nv (Binary g) zero h l = absurd (omega arith)
step_ok nv (Binary g) (suc zero) h l = absurd (omega arith)
step_ok nv (Binary g) (suc (suc d)) h l = let e : suc d ≡ suc (suc d) - 2 + 1 = omega arith in ap (λ (n : ℕ). some (marks n)) e
step_ok nv Not zero h l = absurd (omega arith)
step_ok nv Not (suc d) h l = let e : suc d ≡ suc d - 1 + 1 = omega arith in ap (λ (n : ℕ). some (marks n)) e
step_ok nv Neg zero h l = absurd (omega arith)
step_ok nv Neg (suc d) h l = let e : suc d ≡ suc d - 1 + 1 = omega arith in ap (λ (n : ℕ). some (marks n)) e
step_ok nv Bad d h l = absurd (true_not_false (sym h))

-- ---- the test from a place on, with d values on the stack
unfoldable pub passes : ℕ → List Token → ℕ → Bool
unfolding all_known run only
passes nv ts d = all_known nv ts && is_some (only (run mark_alg ts (marks d)))

module _ (nv : ℕ) (t : Token) (ts : List Token) (d : ℕ) where
  pub passes_unknown : known nv t ≡ false → passes nv (t ∷ ts) d ≡ false
  unfolding passes all_known
  passes_unknown h = ap (λ (b : Bool). (b && all_known nv ts) && is_some (only (run mark_alg (t ∷ ts) (marks d)))) h

  pub passes-low : d < arity t → passes nv (t ∷ ts) d ≡ false
  unfolding passes only
  passes-low h = ap (λ (x : Option (List Mark)). all_known nv (t ∷ ts) && is_some (only x)) (run_none mark_alg t ts (marks d) (step-low t d h)) ∙ and-false (all_known nv (t ∷ ts))

  pub passes_ok : known nv t ≡ true → arity t ≤ d → passes nv (t ∷ ts) d ≡ passes nv ts (d - arity t + 1)
  unfolding passes all_known
  passes_ok h l = ap₂ (λ (b : Bool) (x : Option (List Mark)). (b && all_known nv ts) && is_some (only x)) h (run-some mark_alg t ts (marks d) (marks (d - arity t + 1)) (step_ok nv t d h l))

-- at the end one value is left, or not
pub passes_end : (nv d : ℕ) → eqb d 1 ≡ passes nv [] d
unfolding passes all_known run only marks
passes_end nv zero = refl
passes_end nv (suc zero) = refl
passes_end nv (suc (suc d)) = ne_eqb (suc (suc d)) 1 (λ e. omega arith)

-- ---- the whole test
module _ (nv : ℕ) (ts : List Token) where
  pub formula_outside : outside_of 1 64 (length ts) ≡ true → false ≡ is_formula nv ts
  unfolding is_formula
  formula_outside h = sym (ap (λ (b : Bool). not b && (all_known nv ts && leaves_one ts)) h)

  pub formula_inside : outside_of 1 64 (length ts) ≡ false → passes nv ts 0 ≡ is_formula nv ts
  unfolding is_formula passes leaves_one whole marks
  formula_inside h = sym (ap (λ (b : Bool). not b && (all_known nv ts && leaves_one ts)) h)

  -- what passing tells
  pub record Passed : Type 0 where
    pub least : 1 ≤ length ts
    pub most : length ts ≤ 64
    pub all : all_known nv ts ≡ true
    pub one : leaves_one ts ≡ true

  pub passed : is_formula nv ts ≡ true → Passed
  unfolding is_formula
  passed h =
      let rest = and_right (not (outside_of 1 64 (length ts))) (all_known nv ts && leaves_one ts) h in
      let in_range = within 1 64 (length ts) (flip (outside_of 1 64 (length ts)) (and_left (not (outside_of 1 64 (length ts))) (all_known nv ts && leaves_one ts) h)) in
      record { least = in_range.least; most = in_range.most; all = and_left (all_known nv ts) (leaves_one ts) rest; one = and_right (all_known nv ts) (leaves_one ts) rest }
    where
      flip : (b : Bool) → not b ≡ true → b ≡ false
      flip true e = sym e
      flip false e = refl

  pub passing : 1 ≤ length ts → length ts ≤ 64 → all_known nv ts ≡ true → leaves_one ts ≡ true → is_formula nv ts ≡ true
  unfolding is_formula
  passing a b c d = simp (le-ltb (length ts) 1 a, le-ltb 64 (length ts) b) (and_both c d)

-- ---- known tokens
pub all-known-append : (nv : ℕ) (f g : List Token) → all_known nv (f ++ g) ≡ (all_known nv f && all_known nv g)
unfolding all_known
all-known-append nv [] g = refl
all-known-append nv (t ∷ ts) g = go (known nv t) (all-known-append nv ts g)
  where
    go : (b : Bool) → all_known nv (ts ++ g) ≡ (all_known nv ts && all_known nv g) → (b && all_known nv (ts ++ g)) ≡ ((b && all_known nv ts) && all_known nv g)
    go true e = e
    go false e = refl

-- more variables let more through
known_more : (nv n : ℕ) → nv ≤ n → (t : Token) → known nv t ≡ true → known n t ≡ true
unfolding known
known_more nv n h (Constant k) e = refl
known_more nv n h (Variable i) e = lt-ltb i n (omega (arith, ltb-true i nv e))
known_more nv n h (Binary g) e = refl
known_more nv n h Not e = refl
known_more nv n h Neg e = refl
known_more nv n h Bad e = e

all-known-more : (nv n : ℕ) → nv ≤ n → (ts : List Token) → all_known nv ts ≡ true → all_known n ts ≡ true
unfolding all_known
all-known-more nv n h [] e = refl
all-known-more nv n h (t ∷ ts) e =
    and_both (known_more nv n h t (and_left (known nv t) (all_known nv ts) e)) (all-known-more nv n h ts (and_right (known nv t) (all_known nv ts) e))

pub formula-more : (nv n : ℕ) → nv ≤ n → (ts : List Token) → is_formula nv ts ≡ true → is_formula n ts ≡ true
formula-more nv n h ts e =
    let p = passed nv ts e in
    passing n ts p.least p.most (all-known-more nv n h ts p.all) p.one
