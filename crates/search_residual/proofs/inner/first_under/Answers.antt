-- `search_residual::inner::first_under` meets its contract: none of the atoms passed is told of. Assumes nothing.
use mathlib.Core.Path.{◌≡◌, sym, ap, ◌∙◌}
use mathlib.Core.Option.{Option, none}
use Prim.Native.Nat.{ℕ, ◌-◌}
use Rattle.arrays.proofs.Lists.{of_hit, of_miss, of_end}
use Rattle.search_residual_trial.specs.Trying.{Completion}
use Rattle.search_residual.specs.Told.{lookup_says, told}
use native.Mathlib.Omega.{arith}
use Rattle.search_residual.proofs.inner.first_under.Goals as goal

pub loop-a-preserved : goal.loop-a-preserved
loop-a-preserved c =
    let s = c.args in
    let l = c.loop-a in
    let f : ℕ → Option Completion = λ k. told s.g k (s.top - k) s.bank s.index in
    let missed : f l.a ≡ none = sym (c.look_up.ensures s.g l.a) ∙ ap (lookup_says s.g l.a) c.in_default.is in
    of_miss f s.count l.a (omega arith) missed ∙ l.invariant

pub returns-in-loop-a : goal.returns-in-loop-a
returns-in-loop-a c =
    let s = c.args in
    let l = c.loop-a in
    let f : ℕ → Option Completion = λ k. told s.g k (s.top - k) s.bank s.index in
    ap Option.some c.found_with.ensures ∙ sym (of_hit f s.count l.a (omega arith) _ (sym (c.look_up.ensures s.g l.a) ∙ ap (lookup_says s.g l.a) c.in-Some.is)) ∙ l.invariant

pub returns : goal.returns
returns c =
    let s = c.args in
    let l = c.loop-a in
    sym (of_end (λ (k : ℕ). told s.g k (s.top - k) s.bank s.index) s.count l.a (omega arith)) ∙ l.invariant
