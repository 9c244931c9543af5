-- `index_loops::inner::try_with` meets its contract: the trials up to c are done. Assumes nothing.
use mathlib.Core.Path.{refl, ap, ◌∙◌}
use mathlib.Core.List.{List, [], ◌∷◌, ◌++◌}
use Prim.Native.Nat.{◌+◌, ◌-◌, ◌≤◌}
use native.Mathlib.Omega.{arith}
use Rattle.index_maps.specs.declared.inner.Job.{Job}
use Rattle.index_spec.specs.Index.{Trial, first_c, trials_up_to}
use Rattle.index_spec.proofs.IndexLaws.{from-c}
use Rattle.index_trial.specs.Steps.{trial}
use Rattle.index_loops.proofs.LoopLaws.{ran-none, step_on, step-ended, renamed, moved, ready_on, same_on}
use Rattle.index_loops.proofs.TrialLaws.{up_left, up_start, up_more, up_rest, up-all}
use Rattle.index_loops.proofs.inner.try_with.Goals as goal

pub loop-c-init : goal.loop-c-init
loop-c-init c =
    let a = c.args in
    (renamed (up_start a.g a.b.0 c.first_c-c.result c.first_c-c.ensures) (ran-none a.build.now.job a.build.now.atoms.now a.build.now.pairs.now a.build.now.listed.now a.n a.build.now.work.now c.requires.0), record { job = refl; work = refl; pairs = refl; listed = refl; atoms = refl })

pub returns-then-t-clause-tried : goal.returns-then-t-clause-tried
returns-then-t-clause-tried c =
    let l = c.loop-c in
    let a = c.args in
    let from : first_c a.g a.b.0 ≤ l.c = omega (arith, l.auto.c, c.first_c-c.ensures) in
    step-ended (trials_up_to a.g a.b.0 (l.c - first_c a.g a.b.0)) (trial a.g a.b.0 l.c ∷ []) (up_left a.g a.b.0 a.build.now.job.count (l.c + 1)) l.invariant.0 (moved l.invariant.1 c.try_pair-t.new.self (λ _. trial a.g a.b.0 l.c ∷ []) c.try_pair-t.ensures.tried) c.if-t.true
    (ap (λ (z : List Trial). z ++ up_left a.g a.b.0 a.build.now.job.count (l.c + 1)) (up_more a.g a.b.0 l.c from) ∙ up_rest a.g a.b.0 a.build.now.job.count (l.c + 1) (omega (arith, from)) (omega (arith, c.loop-c-test.true)))

pub try_pair-t-requires : goal.try_pair-t-requires
try_pair-t-requires c =
    let same = c.loop-c.invariant.1 in
    (ready_on same c.loop-c.invariant.0, omega (arith, ap (λ (j : Job). j.count) same.job, c.requires.1), omega (arith, ap (λ (j : Job). j.count) same.job, c.loop-c-test.true))

pub loop-c-preserved : goal.loop-c-preserved
loop-c-preserved c =
    let l = c.loop-c in
    let a = c.args in
    let from : first_c a.g a.b.0 ≤ l.c = omega (arith, l.auto.c, c.first_c-c.ensures) in
    (step_on (trials_up_to a.g a.b.0 (l.c - first_c a.g a.b.0)) (trial a.g a.b.0 l.c ∷ []) l.invariant.0 (moved l.invariant.1 c.try_pair-t.new.self (λ _. trial a.g a.b.0 l.c ∷ []) c.try_pair-t.ensures.tried) c.if-t.false (up_more a.g a.b.0 l.c from), same_on l.invariant.1 c.try_pair-t.ensures.same)

pub returns-clause-tried : goal.returns-clause-tried
returns-clause-tried c =
    let l = c.loop-c in
    let a = c.args in
    let to = l.auto.c-end (omega (arith, c.first_c-c.ensures, from-c a.g a.b.0 a.build.now.job.count c.requires.1)) in
    renamed (up-all a.g a.b.0 a.build.now.job.count l.c (omega (arith, to, c.loop-c-test.false))) l.invariant.0
