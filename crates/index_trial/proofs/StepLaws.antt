-- Laws of the steps of a build: what one trial does, by cases. Assumes nothing.
use mathlib.Core.Path.{◌≡◌, refl, sym, ap, ◌∙◌, subst}
use mathlib.Core.Bool.{Bool, true, false}
use mathlib.Core.List.{List, [], ◌∷◌, ◌++◌}
use Prim.Native.Nat.{ℕ, ◌+◌, ◌*◌, ◌≤◌, ◌<◌}
use native.Mathlib.Omega.{arith}
use lib.ListN.{length, take, drop, length-append, length-drop}
use lib.Seq.{drop-drop, length-take-le}
use Rattle.arrays.specs.Parts.{put_part}
use Rattle.arrays.proofs.Parts.{encode-add, drop-put, length-put}
use Rattle.row_map.specs.Map.{Held, Searchable}
use Rattle.row_map.proofs.MapLaws.{held-put_insert}
use Rattle.index_maps.specs.declared.inner.Job.{Job}
use Rattle.index_trial.specs.declared.inner.Tally.{Tally}
use Rattle.index_spec.specs.Index.{Trial, Pair, Index, holds, rows_of, rows_in, trial_row, pair_of}
use Rattle.index_spec.specs.Trials.{listed, ended, try_pair, try_all}
use Rattle.index_spec.specs.Encoding.{pair_part}
use Rattle.index_maps.specs.Area.{bank_area, bank_bits, InsertedPair}
use Rattle.index_trial.specs.Steps.{Ready, Is, Ran, Listable, ListedPair}
use Rattle.arrays.proofs.Lists.{false_true}
use Rattle.index_spec.proofs.IndexLaws.{rows_snoc, try_cases}
use Rattle.index_spec.proofs.RowLaws.{rows-put}

-- n pairs are listed, and the mark
abbrev pub tallied : ℕ → Bool → Tally
tallied n cut = record { pairs = n; cut = cut }

-- ---- one trial of a whole index
module _ (w L : ℕ) (bank : List (List ℕ)) (ix : Index) (t : Trial) (whole : ix.cut ≡ false) where
  try_in_bank : holds bank (trial_row w bank t) ≡ true → try_pair w L bank ix t ≡ ix
  try_in_bank a =
      try_cases w L bank ix t (λ (x : Index). x ≡ ix) (λ _. refl) (λ _ _. refl) (λ _ _ _. refl)
      (λ _ n _ _. absurd (false_true (sym n ∙ a))) (λ _ n _ _. absurd (false_true (sym n ∙ a)))

  try_in_pairs : holds (rows_in ix.pairs) (trial_row w bank t) ≡ true → try_pair w L bank ix t ≡ ix
  try_in_pairs p =
      try_cases w L bank ix t (λ (x : Index). x ≡ ix) (λ _. refl) (λ _ _. refl) (λ _ _ _. refl)
      (λ _ _ n _. absurd (false_true (sym n ∙ p))) (λ _ _ n _. absurd (false_true (sym n ∙ p)))

  module _ (fresh : holds bank (trial_row w bank t) ≡ false) (unseen : holds (rows_in ix.pairs) (trial_row w bank t) ≡ false) where
    try_new : length ix.pairs < L → try_pair w L bank ix t ≡ listed ix (pair_of w bank t)
    try_new l =
        try_cases w L bank ix t (λ (x : Index). x ≡ listed ix (pair_of w bank t)) (λ y. absurd (false_true (sym whole ∙ y)))
        (λ _ y. absurd (false_true (sym fresh ∙ y))) (λ _ _ y. absurd (false_true (sym unseen ∙ y))) (λ _ _ _ _. refl) (λ _ _ _ m. absurd (omega arith))

    try_full : L ≤ length ix.pairs → try_pair w L bank ix t ≡ ended ix
    try_full l =
        try_cases w L bank ix t (λ (x : Index). x ≡ ended ix) (λ y. absurd (false_true (sym whole ∙ y)))
        (λ _ y. absurd (false_true (sym fresh ∙ y))) (λ _ _ y. absurd (false_true (sym unseen ∙ y))) (λ _ _ _ m. absurd (omega arith)) (λ _ _ _ _. refl)

-- ---- one trial of the arrays
module _ (job : Job) (rows : List ℕ) (t : Trial) where
  abbrev bank : List (List ℕ)
  bank = rows_of job.count rows

  abbrev row : List ℕ
  row = trial_row job.w bank t

  module _ (work pairs pairRows : List ℕ) (n : ℕ) (ready : Ready job rows work pairs pairRows n) where
    -- where the index stays the same, so may the arrays
    ran-same : ((ix : Index) → ix.cut ≡ false → rows_of n pairRows ≡ rows_in ix.pairs → try_pair job.w job.limit bank ix t ≡ ix)
        → Ran job rows pairs pairRows n work pairs pairRows (tallied n false) (t ∷ [])
    unfolding try_all
    ran-same same = record {
      ready = ready;
      index = λ old_pairs oldRows ix is. subst (Is old_pairs oldRows pairs pairRows n false) (sym (same ix (sym is.mark) is.rows_are)) is;
    }

    pub ran_in_bank : holds bank row ≡ true → Ran job rows pairs pairRows n work pairs pairRows (tallied n false) (t ∷ [])
    ran_in_bank a = ran-same (λ ix whole _. try_in_bank job.w job.limit bank ix t whole a)

    pub ran_in_pairs : holds (rows_of n pairRows) row ≡ true → Ran job rows pairs pairRows n work pairs pairRows (tallied n false) (t ∷ [])
    ran_in_pairs p = ran-same (λ ix whole e. try_in_pairs job.w job.limit bank ix t whole (ap (λ (z : List (List ℕ)). holds z row) (sym e) ∙ p))

    pub ran-full : holds bank row ≡ false → holds (rows_of n pairRows) row ≡ false → job.limit ≤ n
        → Ran job rows pairs pairRows n work pairs pairRows (tallied n true) (t ∷ [])
    unfolding try_all
    ran-full a p l = record {
      ready = ready;
      index = λ old_pairs oldRows ix is. subst (Is old_pairs oldRows pairs pairRows n true)
          (sym (try_full job.w job.limit bank ix t (sym is.mark) a (ap (λ (z : List (List ℕ)). holds z row) (sym is.rows_are) ∙ p) (omega (arith, is.count))))
          (record { count = is.count; mark = refl; pairs-are = is.pairs-are; rows_are = is.rows_are; rest = is.rest });
    }

  module _ (pairs pairRows work' pairs' pairRows' : List ℕ) (n : ℕ) where
    -- the arrays with one pair more hold the index with one pair more
    is-more : (old_pairs oldRows : List ℕ) (ix : Index) → Is old_pairs oldRows pairs pairRows n false ix → 16 * n + 16 ≤ length pairRows → length row ≡ 16
        → pairs' ≡ put_part 3 pairs n (pair_part (pair_of job.w bank t)) → pairRows' ≡ put_part 16 pairRows n row
        → Is old_pairs oldRows pairs' pairRows' (n + 1) false (listed ix (pair_of job.w bank t))
    is-more old_pairs oldRows ix is fits long ep er = record {
      count = omega (arith, is.count, length-append ix.pairs (pair_of job.w bank t ∷ []));
      mark = refl;
      pairs-are = ep ∙ ap (λ (z : List ℕ). put_part 3 z n (pair_part p)) is.pairs-are ∙ encode-add 3 pair_part (λ _. refl) ix.pairs old_pairs n p is.count;
      rows_are = ap (λ (z : List ℕ). rows_of (n + 1) z) er ∙ rows-put n pairRows row fits long ∙ ap (λ (z : List (List ℕ)). z ++ (row ∷ [])) is.rows_are ∙ sym (rows_snoc ix.pairs p);
      rest = ap (λ (k : ℕ). drop k pairRows') next ∙ ap (λ (z : List ℕ). drop (16 * n + 16) z) er ∙ drop-put 16 pairRows n row fits long
          ∙ sym (drop-drop 16 (16 * n) pairRows) ∙ ap (λ (z : List ℕ). drop 16 z) is.rest ∙ drop-drop 16 (16 * n) oldRows ∙ ap (λ (k : ℕ). drop k oldRows) (sym next);
    }
      where
        p : Pair
        p = pair_of job.w bank t

        next : 16 * (n + 1) ≡ 16 * n + 16
        next = omega arith

    pub ran-new : (r : List ℕ) → r ≡ row → length r ≡ 16 → holds bank row ≡ false → holds (rows_of n pairRows) row ≡ false → n < job.limit → 16 * n + 16 ≤ length pairRows
        → ListedPair job rows pairs pairRows work' pairs' pairRows' n t.gate t.b t.c r
        → Ran job rows pairs pairRows n work' pairs' pairRows' (tallied (n + 1) false) (t ∷ [])
    unfolding try_all
    ran-new r e long a p l fits done = record {
      ready = done.ready;
      index = λ old_pairs oldRows ix is. subst (Is old_pairs oldRows pairs' pairRows' (n + 1) false)
          (sym (try_new job.w job.limit bank ix t (sym is.mark) a (ap (λ (z : List (List ℕ)). holds z row) (sym is.rows_are) ∙ p) (omega (arith, is.count))))
          (is-more old_pairs oldRows ix is fits (ap length (sym e) ∙ long) done.pairs-are (done.rows_are ∙ ap (put_part 16 pairRows n) e));
    }

-- ---- the maps, as `in_bank` and `find_pair` are called with them
module _ (job : Job) (rows work pairs pairRows : List ℕ) (n : ℕ) (ready : Ready job rows work pairs pairRows n) where
  pub bank_searchable : (bank_area ≤ length work) × Searchable (take bank_area work) bank_bits rows job.count
  bank_searchable =
      let size = ready.sized in
      let long : bank_area ≤ length work = omega arith in (
        long,
        record { small = omega arith; links = omega (arith, length-take-le bank_area work long); filled = size.atoms; held = ready.bank-map },
      )

  pub pair_searchable : (bank_area ≤ length work) × Searchable (drop bank_area work) job.bits pairRows n
  pair_searchable =
      let size = ready.sized in (
        omega arith,
        record { small = size.heads; links = omega (arith, length-drop bank_area work); filled = omega arith; held = ready.pair-map },
      )

  -- and with one pair more
  pub ready-more : (work' pairs' pairRows' : List ℕ) (home : ℕ) (row : List ℕ) (b c : ℕ) → Listable job n home row b c → length row ≡ 16 → length work' ≡ length work
      → length pairs' ≡ length pairs → pairRows' ≡ put_part 16 pairRows n row → InsertedPair work work' job.bits n home → Ready job rows work' pairs' pairRows' (n + 1)
  ready-more work' pairs' pairRows' home row b c able long lw lp e step =
      let size = ready.sized in
      let fits : 16 * n + 16 ≤ length pairRows = omega arith in
      let lr : length pairRows' ≡ length pairRows = ap length e ∙ length-put 16 pairRows n row fits long in
      record {
        sized = record {
          width = size.width;
          few = size.few;
          atoms = size.atoms;
          most = size.most;
          pairs-fit = omega arith;
          rows_fit = omega arith;
          heads = size.heads;
          area = omega arith;
        };
        within = omega arith;
        bank-map = subst (λ (z : List ℕ). Held z rows bank_bits job.count) (sym step.bank) ready.bank-map;
        pair-map = held-put_insert row fits long e able.home-is step.map ready.pair-map;
      }
