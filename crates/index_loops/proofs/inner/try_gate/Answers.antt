-- `index_loops::inner::try_gate` meets its contract: the trials with the atoms below b are done. Assumes nothing.
use mathlib.Core.Path.{refl, sym, ap, ◌∙◌}
use mathlib.Core.List.{List, ◌++◌}
use Prim.Native.Nat.{ℕ, ◌+◌}
use native.Mathlib.Omega.{arith}
use Rattle.index_maps.specs.declared.inner.Job.{Job}
use Rattle.index_spec.specs.Index.{Trial, trials_with}
use Rattle.index_loops.proofs.LoopLaws.{ran-none, step_on, step-ended, renamed, moved, ready_on, same_on}
use Rattle.index_loops.proofs.TrialLaws.{gate_left, gate_up_to, gate-none, gate-more, gate-rest, gate-all}
use Rattle.index_loops.proofs.inner.try_gate.Goals as goal

pub loop-b-init : goal.loop-b-init
loop-b-init c =
    let a = c.args in
    (renamed (sym (gate-none a.build.now.job.count a.g)) (ran-none a.build.now.job a.build.now.atoms.now a.build.now.pairs.now a.build.now.listed.now a.n a.build.now.work.now c.requires), record { job = refl; work = refl; pairs = refl; listed = refl; atoms = refl })

pub returns-then-t-clause-tried : goal.returns-then-t-clause-tried
returns-then-t-clause-tried c =
    let l = c.loop-b in
    let a = c.args in
    step-ended (gate_up_to a.build.now.job.count a.g l.b) (trials_with a.build.now.job.count a.g l.b) (gate_left a.build.now.job.count a.g (l.b + 1)) l.invariant.0 (moved l.invariant.1 c.try_with-t.new.build (λ (k : ℕ). trials_with k a.g l.b) c.try_with-t.ensures.tried) c.if-t.true
    (ap (λ (z : List Trial). z ++ gate_left a.build.now.job.count a.g (l.b + 1)) (gate-more a.build.now.job.count a.g l.b) ∙ gate-rest a.build.now.job.count a.g (l.b + 1) (omega (arith, c.loop-b-test.true)))

pub try_with-t-requires : goal.try_with-t-requires
try_with-t-requires c =
    let same = c.loop-b.invariant.1 in
    (ready_on same c.loop-b.invariant.0, omega (arith, ap (λ (j : Job). j.count) same.job, c.loop-b-test.true))

pub loop-b-preserved : goal.loop-b-preserved
loop-b-preserved c =
    let l = c.loop-b in
    let a = c.args in
    (step_on (gate_up_to a.build.now.job.count a.g l.b) (trials_with a.build.now.job.count a.g l.b) l.invariant.0 (moved l.invariant.1 c.try_with-t.new.build (λ (k : ℕ). trials_with k a.g l.b) c.try_with-t.ensures.tried) c.if-t.false (gate-more a.build.now.job.count a.g l.b), same_on l.invariant.1 c.try_with-t.ensures.same)

pub returns-clause-tried : goal.returns-clause-tried
returns-clause-tried c =
    let l = c.loop-b in
    let a = c.args in
    renamed (gate-all a.build.now.job.count a.g l.b (omega (arith, l.auto.b-end, c.loop-b-test.false))) l.invariant.0
