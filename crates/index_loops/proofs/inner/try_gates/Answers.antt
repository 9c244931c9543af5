-- `index_loops::inner::try_gates` meets its contract: the trials of the gates passed are done. Assumes nothing.
use mathlib.Core.Path.{refl, sym, ap, ◌∙◌}
use mathlib.Core.List.{List, ◌++◌}
use Prim.Native.Nat.{ℕ, ◌+◌}
use native.Mathlib.Omega.{arith}
use lib.ListN.{get_or}
use Rattle.row_gates.specs.declared.Gate.TheVariants.{And}
use Rattle.index_spec.specs.Index.{Trial, all_gates, trials_of_gate}
use Rattle.index_loops.proofs.LoopLaws.{ran-none, step_on, step-ended, renamed, moved, ready_on, same_on}
use Rattle.index_loops.proofs.TrialLaws.{gates_left, gates_up_to, gates-none, gates-more, gates-rest, gates-all}
use Rattle.index_loops.proofs.inner.try_gates.Goals as goal

pub loop-g-init : goal.loop-g-init
loop-g-init c =
    let a = c.args in
    (renamed (sym (gates-none a.build.now.job.count)) (ran-none a.build.now.job a.build.now.atoms.now a.build.now.pairs.now a.build.now.listed.now 0 a.build.now.work.now c.requires), record { job = refl; work = refl; pairs = refl; listed = refl; atoms = refl })

pub returns-then-t-clause-tried : goal.returns-then-t-clause-tried
unfolding all_gates
returns-then-t-clause-tried c =
    let l = c.loop-g in
    let a = c.args in
    step-ended (gates_up_to a.build.now.job.count l.g-index) _ (gates_left a.build.now.job.count (l.g-index + 1)) l.invariant.0 (moved l.invariant.1 c.try_gate-t.new.build (λ (k : ℕ). trials_of_gate k (get_or all_gates l.g-index And)) c.try_gate-t.ensures.tried) c.if-t.true
    (ap (λ (z : List Trial). z ++ gates_left a.build.now.job.count (l.g-index + 1)) (gates-more a.build.now.job.count l.g-index c.loop-g-test.true) ∙ gates-rest a.build.now.job.count (l.g-index + 1))

pub try_gate-t-requires : goal.try_gate-t-requires
try_gate-t-requires c = ready_on c.loop-g.invariant.1 c.loop-g.invariant.0

pub loop-g-preserved : goal.loop-g-preserved
unfolding all_gates
loop-g-preserved c =
    let l = c.loop-g in
    let a = c.args in
    (step_on (gates_up_to a.build.now.job.count l.g-index) _ l.invariant.0 (moved l.invariant.1 c.try_gate-t.new.build (λ (k : ℕ). trials_of_gate k (get_or all_gates l.g-index And)) c.try_gate-t.ensures.tried) c.if-t.false (gates-more a.build.now.job.count l.g-index c.loop-g-test.true), same_on l.invariant.1 c.try_gate-t.ensures.same)

pub returns-clause-tried : goal.returns-clause-tried
returns-clause-tried c =
    let l = c.loop-g in
    let a = c.args in
    renamed (gates-all a.build.now.job.count l.g-index (omega (arith, l.auto.g-index-end, c.loop-g-test.false))) l.invariant.0
