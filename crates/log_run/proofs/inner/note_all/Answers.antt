-- `log_run::inner::note_all` meets its contract: record after record. Assumes nothing.
use mathlib.Core.Path.{ap, ◌∙◌}
use Prim.Native.Nat.{ℕ}
use lib.ListN.{get_or}
use Rattle.log_run.specs.Step.{noted}
use Rattle.log_run.specs.Steps.{noted_over}
use Rattle.log_run.proofs.Stepping.{noted-start, noted_more}
use borrow.Author.Rules.{rules}
use Rattle.log_run.proofs.inner.note_all.Goals as goal

pub loop-k-init : goal.loop-k-init
loop-k-init c = noted-start (λ (t : ℕ). get_or c.args.fired.now t 0) c.args.shown

pub loop-k-preserved : goal.loop-k-preserved
loop-k-preserved c = let a = c.args in
    let l = c.loop-k in
    let f : ℕ → ℕ = λ (t : ℕ). get_or a.fired.now t 0 in
    noted_more f a.shown c.note-s.result l.k (c.note-s.ensures ∙ ap (noted (f l.k)) l.invariant)

pub returns : goal.returns
returns c = let a = c.args in
    let l = c.loop-k in
    l.invariant ∙ ap (noted_over (λ (t : ℕ). get_or a.fired.now t 0) a.shown) (search rules)
