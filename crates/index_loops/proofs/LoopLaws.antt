-- Laws of trials one after the other, and of a loop over them. Assumes nothing.
use mathlib.Core.Path.{◌≡◌, sym, ◌∙◌, subst}
use mathlib.Core.Bool.{Bool, true, false}
use mathlib.Core.List.{List, [], ◌++◌}
use Prim.Native.Nat.{ℕ}
use Rattle.index_maps.specs.declared.inner.Job.{Job}
use Rattle.index_trial.specs.declared.inner.Tally.{Tally}
use Rattle.index_trial.specs.declared.inner.Build.{Build}
use Rattle.index_spec.specs.Index.{Trial, rows_of}
use Rattle.index_spec.specs.Trials.{try_all}
use Rattle.index_trial.specs.Steps.{Ready, Is, Ran, IsReady, Tried, SameLent}
use Rattle.index_spec.proofs.IndexLaws.{stays_cut, try_append}
use Rattle.index_trial.proofs.StepLaws.{tallied}

-- ---- trials one after the other
-- the trials by another name
pub renamed : {job : Job} {rows pairs₀ pairRows₀ : List ℕ} {n : ℕ} {work₁ pairs₁ rows₁ : List ℕ} {r : Tally} {ts us : List Trial} → ts ≡ us
    → Ran job rows pairs₀ pairRows₀ n work₁ pairs₁ rows₁ r ts → Ran job rows pairs₀ pairRows₀ n work₁ pairs₁ rows₁ r us
renamed {job} {rows} {pairs₀} {pairRows₀} {n} {work₁} {pairs₁} {rows₁} {r} e ran = subst (Ran job rows pairs₀ pairRows₀ n work₁ pairs₁ rows₁ r) e ran

module _ (job : Job) (rows pairs pairRows : List ℕ) (n : ℕ) where
  pub ran-none : (work : List ℕ) → Ready job rows work pairs pairRows n → Ran job rows pairs pairRows n work pairs pairRows (tallied n false) []
  unfolding try_all
  ran-none work ready = record { ready = ready; index = λ _ _ _ is. is }

  module _ (work' pairs' pairRows' : List ℕ) (r : Tally) (ts us : List Trial) where
    -- a cut index stays as it is, whatever is left
    pub ran-ended : r.cut ≡ true → Ran job rows pairs pairRows n work' pairs' pairRows' r ts → Ran job rows pairs pairRows n work' pairs' pairRows' r (ts ++ us)
    ran-ended cut ran = record {
      ready = ran.ready;
      index = λ old_pairs oldRows ix is.
          let now = ran.index old_pairs oldRows ix is in
          subst (Is old_pairs oldRows pairs' pairRows' r.pairs r.cut)
          (sym (try_append job.w job.limit (rows_of job.count rows) ts us ix ∙ stays_cut job.w job.limit (rows_of job.count rows) us _ (sym now.mark ∙ cut)))
          now;
    }

  pub ran_then : (work₁ pairs₁ rows₁ work₂ pairs₂ rows₂ : List ℕ) (m : ℕ) (r : Tally) (ts us : List Trial)
      → Ran job rows pairs pairRows n work₁ pairs₁ rows₁ (tallied m false) ts → Ran job rows pairs₁ rows₁ m work₂ pairs₂ rows₂ r us
      → Ran job rows pairs pairRows n work₂ pairs₂ rows₂ r (ts ++ us)
  ran_then work₁ pairs₁ rows₁ work₂ pairs₂ rows₂ m r ts us first then = record {
    ready = then.ready;
    index = λ old_pairs oldRows ix is.
        subst (Is old_pairs oldRows pairs₂ rows₂ r.pairs r.cut) (sym (try_append job.w job.limit (rows_of job.count rows) ts us ix))
        (then.index old_pairs oldRows _ (first.index old_pairs oldRows ix is));
  }

  -- the tally of a step that was not cut
  pub ran-whole : (work' pairs' pairRows' : List ℕ) (r : Tally) (ts : List Trial) → r.cut ≡ false
      → Ran job rows pairs pairRows n work' pairs' pairRows' r ts → Ran job rows pairs pairRows n work' pairs' pairRows' (tallied r.pairs false) ts
  ran-whole work' pairs' pairRows' r ts e ran = record {
    ready = ran.ready;
    index = λ old_pairs oldRows ix is. subst (λ (b : Bool). Is old_pairs oldRows pairs' pairRows' r.pairs b (try_all job.w job.limit (rows_of job.count rows) ix ts)) e (ran.index old_pairs oldRows ix is);
  }

-- ---- a loop over trials
module _ {job : Job} {rows pairs₀ pairRows₀ : List ℕ} {n : ℕ} {work₁ pairs₁ rows₁ work₂ pairs₂ rows₂ : List ℕ} {m : ℕ} {r : Tally} where
  -- a step that was not cut, and one that was: what is left doesn't matter
  pub step_on : (ts us : List Trial) {next : List Trial} → Ran job rows pairs₀ pairRows₀ n work₁ pairs₁ rows₁ (tallied m false) ts → Ran job rows pairs₁ rows₁ m work₂ pairs₂ rows₂ r us
      → r.cut ≡ false → ts ++ us ≡ next → Ran job rows pairs₀ pairRows₀ n work₂ pairs₂ rows₂ (tallied r.pairs false) next
  step_on ts us first then whole e =
      renamed e
      (ran-whole job rows pairs₀ pairRows₀ n work₂ pairs₂ rows₂ r (ts ++ us) whole
      (ran_then job rows pairs₀ pairRows₀ n work₁ pairs₁ rows₁ work₂ pairs₂ rows₂ m r ts us first then))

  pub step-ended : (ts us more : List Trial) {all : List Trial} → Ran job rows pairs₀ pairRows₀ n work₁ pairs₁ rows₁ (tallied m false) ts
      → Ran job rows pairs₁ rows₁ m work₂ pairs₂ rows₂ r us → r.cut ≡ true → (ts ++ us) ++ more ≡ all → Ran job rows pairs₀ pairRows₀ n work₂ pairs₂ rows₂ r all
  step-ended ts us more first then cut e =
      renamed e
      (ran-ended job rows pairs₀ pairRows₀ n work₂ pairs₂ rows₂ r (ts ++ us) more cut
      (ran_then job rows pairs₀ pairRows₀ n work₁ pairs₁ rows₁ work₂ pairs₂ rows₂ m r ts us first then))

-- ---- over a build: what was tried since is of the same build
module _ {old mid : Build} (same : SameLent old mid) where
  pub moved : {n : ℕ} {r : Tally} (new : Build) (ts : ℕ → List Trial) → Tried mid new n r (ts mid.job.count)
      → Ran old.job old.atoms.now mid.pairs.now mid.listed.now n new.work.now new.pairs.now new.listed.now r (ts old.job.count)
  moved {n} {r} new ts t =
      subst (λ (j : Job). Ran j old.atoms.now mid.pairs.now mid.listed.now n new.work.now new.pairs.now new.listed.now r (ts j.count)) same.job
      (subst (λ (a : List ℕ). Ran mid.job a mid.pairs.now mid.listed.now n new.work.now new.pairs.now new.listed.now r (ts mid.job.count)) same.atoms t)

  pub ready_on : {n m : ℕ} {ts : List Trial} → Tried old mid n (tallied m false) ts → IsReady mid m
  ready_on {n} {m} t =
      subst (λ (j : Job). Ready j mid.atoms.now mid.work.now mid.pairs.now mid.listed.now m) (sym same.job)
      (subst (λ (a : List ℕ). Ready old.job a mid.work.now mid.pairs.now mid.listed.now m) (sym same.atoms) t.ready)

  pub same_on : {new : Build} → SameLent mid new → SameLent old new
  same_on s = record {
    job = s.job ∙ same.job;
    work = s.work ∙ same.work;
    pairs = s.pairs ∙ same.pairs;
    listed = s.listed ∙ same.listed;
    atoms = s.atoms ∙ same.atoms;
  }
