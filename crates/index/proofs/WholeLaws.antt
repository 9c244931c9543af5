-- Laws of a whole build: it starts ready, what all trials leave is the index with its order list, and what the answer says. Assumes nothing.
use mathlib.Core.Path.{◌≡◌, refl, sym, ap, ap₂, ◌∙◌, subst}
use mathlib.Core.Bool.{Bool, false}
use mathlib.Core.List.{List, ◌++◌}
use Prim.Native.Nat.{ℕ, ◌*◌, ◌^◌, ◌≤◌, ◌<◌}
use native.Mathlib.Omega.{arith}
use lib.ListN.{length, get_or, take, drop, take-append-drop}
use lib.Seq.{get_or-take}
use Rattle.arrays.specs.Parts.{encode}
use Rattle.std.specs.Prelude.{Ok, Err}
use Rattle.limits.specs.Refusal.{answer, number_of}
use Rattle.limits.specs.declared.Refusal.{Refusal}
use Rattle.limits.proofs.Answers.{says_err, says_ok, unless_err, unless_ok}
use Rattle.index_order.specs.Order.{first_word, order_of}
use Rattle.index_order.proofs.OrderLaws.{order_same}
use Rattle.index_maps.specs.declared.inner.Job.{Job}
use Rattle.index_trial.specs.declared.inner.Tally.{Tally}
use Rattle.index.specs.declared.BuiltIndex.{BuiltIndex}
use Rattle.index_spec.specs.Index.{Pair, all_gates, rows_of, rows_in, trials_of}
use Rattle.index_spec.specs.Trials.{try_all, no_pairs, tried_of}
use Rattle.index_spec.specs.Encoding.{pair_part, pair_row}
use Rattle.index.specs.Build.{Arrays, index_refusal, lent_index, IndexBuilt}
use Rattle.index_maps.specs.Area.{head_room, Prepared}
use Rattle.index_trial.specs.Steps.{Ready, Is, Ran}
use Rattle.index.specs.Steps.{Fits, Made}
use Rattle.index_spec.proofs.IndexLaws.{by_trials}
use Rattle.index_spec.proofs.RowLaws.{length-rows_of, rows_written}
use Rattle.index.proofs.Passing.{Passed}

abbrev pub job_of : ℕ → ℕ → ℕ → ℕ → Job
job_of w count limit bits = record { w = w; count = count; limit = limit; bits = bits }

-- ---- the start
pub ready-start : (w count limit bits : ℕ) (rows work pairs listed order work' : List ℕ) → Fits w count limit rows work pairs listed order → bits ≤ 31 → 2 ^ bits ≤ head_room limit
    → length work' ≡ length work → Prepared (job_of w count limit bits) rows work' → Ready (job_of w count limit bits) rows work' pairs listed 0
ready-start w count limit bits rows work pairs listed order work' fits small room long done = record {
  sized = record {
    width = fits.width;
    few = fits.few;
    atoms = fits.atoms;
    most = fits.most;
    pairs-fit = fits.pairs-fit;
    rows_fit = fits.rows_fit;
    heads = small;
    area = omega (arith, fits.area, room, long);
  };
  within = omega arith;
  bank-map = done.bank;
  pair-map = done.pairs listed;
}

is-start : (pairs listed : List ℕ) → Is pairs listed pairs listed 0 false no_pairs
unfolding encode rows_of rows_in
is-start pairs listed = record { count = refl; mark = refl; pairs-are = refl; rows_are = refl; rest = refl }

-- ---- the end
module _ (w count limit bits : ℕ) (rows pairs listed order work' pairs' listed' order' : List ℕ) (r : Tally) where
  is_whole : Ran (job_of w count limit bits) rows pairs listed 0 work' pairs' listed' r (trials_of all_gates count)
      → Is pairs listed pairs' listed' r.pairs r.cut (lent_index w count rows limit)
  unfolding tried_of
  is_whole ran =
      subst (Is pairs listed pairs' listed' r.pairs r.cut)
      (ap (λ (k : ℕ). try_all w limit (rows_of count rows) no_pairs (trials_of all_gates k)) (sym (length-rows_of count rows)) ∙ by_trials w limit all_gates (rows_of count rows))
      (ran.index pairs listed no_pairs (is-start pairs listed))

  -- what the two arrays hold at the end is what the trials left there
  pub made-is : {pairs₁ listed₁ : List ℕ} → pairs₁ ≡ pairs' → listed₁ ≡ listed' → Ran (job_of w count limit bits) rows pairs listed 0 work' pairs₁ listed₁ r (trials_of all_gates count)
      → order' ≡ order_of r.pairs listed' ++ drop r.pairs order → Made w count limit rows pairs listed order pairs' listed' order' r
  made-is {pairs₁} ep el ran sorted = record {
    within = ran.ready.within;
    count-is = is.count;
    mark-is = is.mark;
    pairs-are = is.pairs-are ∙ ap (λ (k : ℕ). encode pair_part ps ++ drop (3 * k) pairs) is.count;
    rows_are = sym (take-append-drop (16 * r.pairs) listed') ∙ ap₂ (λ (x y : List ℕ). x ++ y) (sym flat) is.rest ∙ ap (λ (k : ℕ). encode pair_row ps ++ drop (16 * k) listed) is.count;
    order_is = sorted ∙ ap (λ (z : List ℕ). z ++ drop r.pairs order) (order_same r.pairs listed' (encode pair_row ps) first)
        ∙ ap (λ (k : ℕ). order_of k (encode pair_row ps) ++ drop k order) is.count;
  }
    where
      is : Is pairs listed pairs' listed' r.pairs r.cut (lent_index w count rows limit)
      is = is_whole
          (subst (λ (z : List ℕ). Ran (job_of w count limit bits) rows pairs listed 0 work' z listed' r (trials_of all_gates count)) ep
          (subst (λ (z : List ℕ). Ran (job_of w count limit bits) rows pairs listed 0 work' pairs₁ z r (trials_of all_gates count)) el ran))

      ps : List Pair
      ps = (lent_index w count rows limit).pairs

      flat : encode pair_row ps ≡ take (16 * r.pairs) listed'
      flat = rows_written r.pairs listed' ps is.rows_are

      first : (s : ℕ) → s < r.pairs → first_word listed' s ≡ first_word (encode pair_row ps) s
      first s h = sym (ap (λ (z : List ℕ). get_or z (16 * s) 0) flat ∙ get_or-take (16 * r.pairs) listed' (16 * s) 0 (omega arith))

-- ---- the answer
module _ (w count : ℕ) (rows : List ℕ) (L : ℕ) (old : Arrays) where
  abbrev number : ℕ
  number = index_refusal w count rows L old

  pub refused-built : (r : Refusal) → number_of r ≡ number → IndexBuilt w count rows L old old (Err r)
  refused-built r e = record {
    says = says_err r number _ e;
    pairs = sym (unless_err r number _ _ e);
    rows_are = sym (unless_err r number _ _ e);
    order = sym (unless_err r number _ _ e);
    work-kept = λ _. refl;
  }

  pub made-built : (new : Arrays) (r : Tally) → 0 ≡ number → Made w count L rows old.pairs old.rows old.order new.pairs new.rows new.order r
      → IndexBuilt w count rows L old new (Ok (record { pairs = r.pairs; cut = r.cut }))
  made-built new r none made = record {
    says = ap₂ (λ (n : ℕ) (b : Bool). answer (summary n b)) made.count-is made.mark-is ∙ says_ok number _ none;
    pairs = made.pairs-are ∙ sym (unless_ok number _ _ none);
    rows_are = made.rows_are ∙ sym (unless_ok number _ _ none);
    order = made.order_is ∙ sym (unless_ok number _ _ none);
    work-kept = λ h. absurd (omega arith);
  }
    where
      summary : ℕ → Bool → BuiltIndex
      summary n b = record { pairs = n; cut = b }

-- so a build that is not refused is called with what it needs
pub fits_of : {w count L : ℕ} (rows work pairs listed order : List ℕ) → Passed w count L (length rows) (length pairs) (length listed) (length order) (length work)
    → Fits w count L rows work pairs listed order
fits_of rows work pairs listed order p = record {
  width = p.width;
  few = p.few;
  atoms = p.atoms;
  most = p.most;
  pairs-fit = p.pairs-fit;
  rows_fit = p.rows_fit;
  order-fit = p.order-fit;
  area = p.area;
}
