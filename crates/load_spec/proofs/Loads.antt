-- The statements of specs/Loads. Assumes nothing.
use mathlib.Core.Path.{◌≡◌, refl, sym, ap, ap₂, ◌∙◌}
use mathlib.Core.List.{List, ◌∷◌, map}
use Prim.Native.Nat.{ℕ, zero, suc}
use native.Mathlib.Nat.{suc-add, zero-add}
use native.Mathlib.Omega.{arith}
use lib.ListN.{length, length-map}
use Rattle.expr.specs.declared.Token.{Token}
use Rattle.expr.specs.Formula.{opcode_of, operand_of, tokens}
use Rattle.arrays.specs.Lists.{laid}
use Rattle.arrays.proofs.Fill.{length-laid}
use Rattle.limits.specs.Refusal.{outcome, answer}
use Rattle.load_draw.specs.Draw.{Drawn, formula_from, load_from, load_state, draw_refusal, counted, laid_or, Called, called}
use Rattle.load_draw.proofs.Drawing.{laid-reads, form-most}
use Rattle.load_draw.proofs.Refusing.{ready, ready-none}
use Rattle.load_spec.specs.Loads.{Loaded, handed_on, before, calls_from, LoadIsCalls, SameLoad, StateRunsOn, FirstOfLonger}

-- ---- a load is calls
module _ (nv w limit s : ℕ) (ops operands : List ℕ) (none : draw_refusal nv w limit ops operands ≡ 0) where
  abbrev d : Drawn
  d = formula_from nv w limit s

  -- a call that isn't refused
  call-is : called s nv w limit ops operands ≡ record { answer = answer (counted d); ops = laid (map opcode_of d.form) ops; operands = laid (map operand_of d.form) operands }
  call-is = ap (λ (n : ℕ). record { answer = outcome n (counted d); ops = laid_or n opcode_of d ops; operands = laid_or n operand_of d operands }) none

  call-form : tokens (length d.form) (laid (map opcode_of d.form) ops) (laid (map operand_of d.form) operands) ≡ d.form
  call-form = laid-reads d.form ops operands

  -- nor is the next
  call-again : draw_refusal nv w limit (laid (map opcode_of d.form) ops) (laid (map operand_of d.form) operands) ≡ 0
  call-again =
      let g = ready nv w limit ops operands none in
      let few = form-most nv w limit s g.least in
      ready-none nv w limit _ _ (record {
        some = g.some;
        few = g.few;
        wide = g.wide;
        narrow = g.narrow;
        least = g.least;
        most = g.most;
        ops-fit = omega (arith, length-laid (map opcode_of d.form) ops (omega (arith, few, g.ops-fit, length-map d.form opcode_of)), g.ops-fit);
        operands-fit = omega (arith, length-laid (map operand_of d.form) operands (omega (arith, few, g.operands-fit, length-map d.form operand_of)), g.operands-fit);
      })

pub load-is-calls : LoadIsCalls
unfolding calls_from load_from load_state
load-is-calls nv w limit zero s ops operands none = refl
load-is-calls nv w limit (suc n) s ops operands none =
    let x = formula_from nv w limit s in
    ap (λ (c : Called). before s c (calls_from nv w limit n c.ops c.operands (handed_on s c.answer).state)) (call-is nv w limit s ops operands none)
    ∙ ap₂ (λ (ts : List Token) (more : Loaded). record { forms = ts ∷ more.forms; state = more.state })
    (call-form nv w limit s ops operands none)
    (load-is-calls nv w limit n x.state (laid (map opcode_of x.form) ops) (laid (map operand_of x.form) operands) (call-again nv w limit s ops operands none))

pub same_load : SameLoad
same_load nv w limit n s ops operands ops₂ operands₂ a b = load-is-calls nv w limit n s ops operands a ∙ sym (load-is-calls nv w limit n s ops₂ operands₂ b)

-- ---- the state runs on
pub state_runs_on : StateRunsOn
unfolding load_from load_state
state_runs_on nv w limit zero m s = ap (λ (k : ℕ). load_from nv w limit k s) (zero-add m)
state_runs_on nv w limit (suc n) m s =
    ap (λ (k : ℕ). load_from nv w limit k s) (suc-add n m)
    ∙ ap (λ (l : List (List Token)). (formula_from nv w limit s).form ∷ l) (state_runs_on nv w limit n m (formula_from nv w limit s).state)

pub first_of_longer : FirstOfLonger
unfolding load_from
first_of_longer nv w limit zero m s h = refl
first_of_longer nv w limit (suc n) zero s h = absurd (omega arith)
first_of_longer nv w limit (suc n) (suc m) s h =
    ap (λ (l : List (List Token)). (formula_from nv w limit s).form ∷ l) (first_of_longer nv w limit n m (formula_from nv w limit s).state (omega arith))
