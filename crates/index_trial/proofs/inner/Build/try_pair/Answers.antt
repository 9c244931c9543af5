-- `index_trial::inner::Build::try_pair` meets its contract: each way through it is a case of `try_pair`. Assumes nothing.
use mathlib.Core.Path.{◌≡◌, sym, ap, ◌∙◌}
use mathlib.Core.Bool.{Bool}
use mathlib.Core.List.{List}
use Prim.Native.Nat.{ℕ}
use native.Mathlib.Omega.{arith}
use lib.ListN.{length}
use Rattle.row_map.proofs.MapLaws.{lookup_at, lookup_free}
use Rattle.index_spec.specs.Index.{holds}
use Rattle.index_trial.specs.Steps.{trial}
use Rattle.index_maps.proofs.FindLaws.{hit-holds, miss_holds}
use Rattle.index_spec.proofs.RowLaws.{gate-long, trial-row}
use Rattle.index_trial.proofs.StepLaws.{ran_in_bank, ran_in_pairs, ran-full, ran-new, bank_searchable}
use Rattle.index_trial.proofs.inner.Build.try_pair.Goals as goal

-- what is held of the row that the gate gave is held of the trial's
held_same : (rows : List (List ℕ)) {r t : List ℕ} {v : Bool} → r ≡ t → holds rows r ≡ v → holds rows t ≡ v
held_same rows e h = ap (holds rows) (sym e) ∙ h

pub in_bank-requires-clause-bank_area_in_bounds : goal.in_bank-requires-clause-bank_area_in_bounds
in_bank-requires-clause-bank_area_in_bounds c =
    let s = c.args.self.now in
    bank_searchable s.job s.atoms.now s.work.now s.pairs.now s.listed.now c.args.n c.requires.0

pub returns-then-in_bank-clause-tried : goal.returns-then-in_bank-clause-tried
returns-then-in_bank-clause-tried c =
    let a = c.args in
    let same = c.gate_of_rows-row.ensures ∙ trial-row a.t.gate a.self.now.job.w a.self.now.job.count a.self.now.atoms.now a.t.b.0 a.t.c.0 c.requires.1 c.requires.2 in
    ran_in_bank a.self.now.job a.self.now.atoms.now (trial a.t.gate a.t.b.0 a.t.c.0) a.self.now.work.now a.self.now.pairs.now a.self.now.listed.now a.n c.requires.0 (held_same _ same (sym c.in_bank.ensures ∙ c.if-in_bank.true))

pub returns-then-n-job-clause-tried : goal.returns-then-n-job-clause-tried
returns-then-n-job-clause-tried c =
    let a = c.args in
    let same = c.gate_of_rows-row.ensures ∙ trial-row a.t.gate a.self.now.job.w a.self.now.job.count a.self.now.atoms.now a.t.b.0 a.t.c.0 c.requires.1 c.requires.2 in
    let miss = lookup_free c.in-Free.is c.find_pair.ensures in
    ran-full a.self.now.job a.self.now.atoms.now (trial a.t.gate a.t.b.0 a.t.c.0) a.self.now.work.now a.self.now.pairs.now a.self.now.listed.now a.n c.requires.0 (held_same _ same (sym c.in_bank.ensures ∙ c.if-in_bank.false)) (held_same _ same (miss_holds miss)) c.if-n-job.true

pub list_pair-requires : goal.list_pair-requires
list_pair-requires c =
    let a = c.args in
    let miss = lookup_free c.in-Free.is c.find_pair.ensures in
    (c.requires.0, record { room = c.if-n-job.false; home-is = miss.home; chain = miss.small; b-below = c.requires.1; c-below = c.requires.2 })

pub returns-in-At-clause-tried : goal.returns-in-At-clause-tried
returns-in-At-clause-tried c =
    let a = c.args in
    let same = c.gate_of_rows-row.ensures ∙ trial-row a.t.gate a.self.now.job.w a.self.now.job.count a.self.now.atoms.now a.t.b.0 a.t.c.0 c.requires.1 c.requires.2 in
    let hit = lookup_at a.self.now.job.bits c.in-At.is c.find_pair.ensures in
    ran_in_pairs a.self.now.job a.self.now.atoms.now (trial a.t.gate a.t.b.0 a.t.c.0) a.self.now.work.now a.self.now.pairs.now a.self.now.listed.now a.n c.requires.0 (held_same _ same (hit-holds hit))

pub returns-else-n-job-clause-tried : goal.returns-else-n-job-clause-tried
returns-else-n-job-clause-tried c =
    let a = c.args in
    let same = c.gate_of_rows-row.ensures ∙ trial-row a.t.gate a.self.now.job.w a.self.now.job.count a.self.now.atoms.now a.t.b.0 a.t.c.0 c.requires.1 c.requires.2 in
    let miss = lookup_free c.in-Free.is c.find_pair.ensures in
    let size = c.requires.0.sized in
    let long : length c.gate_of_rows-row.result ≡ 16 =
    ap length c.gate_of_rows-row.ensures ∙ gate-long a.t.gate a.self.now.job.w a.self.now.atoms.now a.t.b.0 a.t.c.0 (omega (arith, size.atoms, c.requires.1)) (omega (arith, size.atoms, c.requires.2)) in
    ran-new a.self.now.job a.self.now.atoms.now (trial a.t.gate a.t.b.0 a.t.c.0) a.self.now.pairs.now a.self.now.listed.now _ _ _ a.n _ same long (held_same _ same (sym c.in_bank.ensures ∙ c.if-in_bank.false))
    (held_same _ same (miss_holds miss)) c.if-n-job.false (omega (arith, size.rows_fit, c.if-n-job.false)) c.list_pair.ensures.listed
