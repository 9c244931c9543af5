-- What holds of every index: the theorems of specs/Facts. Each induction over the trials goes through `try_cases`. Assumes nothing.
use mathlib.Core.Path.{◌≡◌, refl, sym, ap, ap₂, ◌∙◌, subst}
use mathlib.Core.Bool.{Bool, true, false}
use mathlib.Core.Logic.{◌⊎◌, inl, inr}
use mathlib.Core.List.{List, [], ◌∷◌, ◌++◌}
use Prim.Native.Nat.{ℕ, suc, ◌-◌, ◌^◌, ◌≤◌, ◌<◌}
use native.Mathlib.Decide.{dec_lt}
use native.Mathlib.Nat.{eq-or-lt_of_le}
use native.Mathlib.Omega.{arith}
use borrow.Author.Tests.{ltb-true, ltb-false, lt-ltb, le-ltb}
use lib.Dec.{ltb}
use lib.ListN.{get_or, length, take, length-append, length-take, get_or-append}
use lib.Seq.{take-append-le, take_all, take-take, get_or_at}
use Rattle.row_gates.specs.Gates.{gate_of, gate_row, same_row}
use Rattle.row_gates.specs.declared.Gate.{Gate}
use Rattle.row_gates.specs.declared.Gate.TheVariants.{And, Or, Xor, Add, Mul}
use Rattle.row_gates.proofs.GateLaws.{and_itself, or_itself}
use Rattle.row_gates.proofs.Rows.{row_comm, row_self, gate_reduces, same-row_eq, same-row_refl}
use Rattle.arrays.specs.Lists.{count_up, In}
use Rattle.index_spec.specs.Index.{Trial, Pair, Index, holds, passes_over, first_c, trials_up_to, trials_with, trials_of_gate, trials_of, trial_row, pair_of, rows_in, add_new, all_gates, all_pairs, index_of}
use Rattle.index_spec.specs.Trials.{listed, ended, try_pair, try_all, no_pairs, tried_of}
use Rattle.index_spec.specs.Facts.{Holds, no_pair, SoundPair, SoundPairs, NoneLost, IndexIsSound, AtMostLimit, UncutLosesNone, ByTrials, FirstPairs, AllAreSound, AllLoseNone, PairsReduced, PassedOverIsReduced, PassedOverIsLost}
use Rattle.arrays.proofs.Lists.{false_true, is_false, bool_cases, in_left, in_right, in_map, map_in, in_flat, flat_in, in_count, count_in, in_at, in_place, place_in}

-- ---- rows that are held
pub holds_in : (rs : List (List ℕ)) (r : List ℕ) → holds rs r ≡ true → In r rs
unfolding holds
holds_in [] r e = absurd (false_true e)
holds_in (x ∷ rs) r e = go (same_row x r) refl e (λ q. holds_in rs r q)
  where
    go : (b : Bool) → same_row x r ≡ b → elim b as (λ (q : Bool). Bool) [ true ↦ true | false ↦ holds rs r ] ≡ true → (holds rs r ≡ true → In r rs) → (r ≡ x) ⊎ In r rs
    go true s q ih = inl (sym (same-row_eq x r s))
    go false s q ih = inr (ih q)

pub in_holds : (rs : List (List ℕ)) (r : List ℕ) → In r rs → holds rs r ≡ true
unfolding holds
in_holds [] r h = absurd h
in_holds (x ∷ rs) r (inl e) = rw (← e, same-row_refl r, holds)
in_holds (x ∷ rs) r (inr h) = go (same_row x r) (in_holds rs r h)
  where
    go : (b : Bool) → holds rs r ≡ true → elim b as (λ (q : Bool). Bool) [ true ↦ true | false ↦ holds rs r ] ≡ true
    go true ih = refl
    go false ih = ih

pub not_in_holds : (rs : List (List ℕ)) (r : List ℕ) → (In r rs → ⊥) → holds rs r ≡ false
not_in_holds rs r n = elim (bool_cases (holds rs r)) [ inl y ↦ absurd (n (holds_in rs r y)) | inr f ↦ f ]

-- ---- the trials: every gate with every two atoms, or the row is an atom's
in_trials : (gates : List Gate) (n : ℕ) (g : Gate) (b c : ℕ) → In g gates → b < n → first_c g b ≤ c → c < n → In (record { gate = g; b = b; c = c }) (trials_of gates n)
unfolding trials_of trials_of_gate trials_with trials_up_to
in_trials gates n g b c i hb l hc =
    in_flat (trials_of_gate n) g _ gates i
    (in_flat (trials_with n g) b _ (count_up 0 n) (in_count 0 n b (omega arith) (omega arith))
    (in_map (λ (k : ℕ). record { gate = g; b = b; c = k }) c (count_up (first_c g b) (n - first_c g b)) (in_count (first_c g b) (n - first_c g b) c l (omega arith))))

from-b : (g : Gate) (b : ℕ) → b ≤ first_c g b
unfolding first_c
from-b And b = omega arith
from-b Or b = omega arith
from-b Xor b = omega arith
from-b Add b = omega arith
from-b Mul b = omega arith

pub from-c : (g : Gate) (b c : ℕ) → b < c → first_c g b ≤ c
unfolding first_c
from-c And b c h = h
from-c Or b c h = h
from-c Xor b c h = omega arith
from-c Add b c h = omega arith
from-c Mul b c h = omega arith

-- what a trial is
record Tried (gates : List Gate) (n : ℕ) (t : Trial) : Type 0 where
  gate_in : In t.gate gates
  up : t.b ≤ t.c
  low : t.c < n

trials_in : (gates : List Gate) (n : ℕ) (t : Trial) → In t (trials_of gates n) → Tried gates n t
unfolding trials_of trials_of_gate trials_with trials_up_to
trials_in gates n t h =
    let s = flat_in (trials_of_gate n) t gates h in
    let u = flat_in (trials_with n s.of) t (count_up 0 n) s.at in
    let p = map_in (λ (k : ℕ). record { gate = s.of; b = u.of; c = k }) t (count_up (first_c s.of u.of) (n - first_c s.of u.of)) u.at in
    let k = count_in (first_c s.of u.of) (n - first_c s.of u.of) p.of p.at in
    let eb : t.b ≡ u.of = ap (λ (x : Trial). x.b) p.is in
    let ec : t.c ≡ p.of = ap (λ (x : Trial). x.c) p.is in
    record {
      gate_in = subst (λ (g : Gate). In g gates) (sym (ap (λ (x : Trial). x.gate) p.is)) s.within;
      up = omega (arith, from-b s.of u.of);
      low = omega arith;
    }

-- b with itself: tried, where the gate doesn't pass it over
from_itself : (g : Gate) (b : ℕ) → passes_over g ≡ false → first_c g b ≡ b
unfolding first_c
from_itself g b e = rw e

-- passed over, it is the row reduced
pub passed_over_is-reduced : PassedOverIsReduced
passed_over_is-reduced And i w row = row_self And w (and_itself w) row
passed_over_is-reduced Or i w row = row_self Or w (or_itself w) row
passed_over_is-reduced Xor i w row = absurd (false_true i)
passed_over_is-reduced Add i w row = absurd (false_true i)
passed_over_is-reduced Mul i w row = absurd (false_true i)

-- ---- rows of pairs
pub rows_snoc : (ps : List Pair) (p : Pair) → rows_in (ps ++ (p ∷ [])) ≡ rows_in ps ++ (p.row ∷ [])
unfolding rows_in
rows_snoc [] p = refl
rows_snoc (q ∷ ps) p = ap (λ (l : List (List ℕ)). q.row ∷ l) (rows_snoc ps p)

pub rows-length : (ps : List Pair) → length (rows_in ps) ≡ length ps
unfolding rows_in
rows-length [] = refl
rows-length (q ∷ ps) = ap suc (rows-length ps)

length_snoc : {A : Type 0} (xs : List A) (x : A) → length (xs ++ (x ∷ [])) ≡ suc (length xs)
length_snoc xs x = omega (arith, length-append xs (x ∷ []))

-- ---- one trial, by cases
module _ (w L : ℕ) (bank : List (List ℕ)) where
  pub try_cases : (ix : Index) (t : Trial) (P : Index → Type 0)
      → (ix.cut ≡ true → P ix)
      → (ix.cut ≡ false → holds bank (trial_row w bank t) ≡ true → P ix)
      → (ix.cut ≡ false → holds bank (trial_row w bank t) ≡ false → holds (rows_in ix.pairs) (trial_row w bank t) ≡ true → P ix)
      → (ix.cut ≡ false → holds bank (trial_row w bank t) ≡ false → holds (rows_in ix.pairs) (trial_row w bank t) ≡ false → length ix.pairs < L → P (listed ix (pair_of w bank t)))
      → (ix.cut ≡ false → holds bank (trial_row w bank t) ≡ false → holds (rows_in ix.pairs) (trial_row w bank t) ≡ false → L ≤ length ix.pairs → P (ended ix))
      → P (try_pair w L bank ix t)
  unfolding try_pair
  try_cases ix t P done inBank inPairs new full =
      elim (bool_cases ix.cut) [
        | inl c ↦ rw (c, try_pair) (done c)
        | inr c ↦ elim (bool_cases (holds bank (trial_row w bank t))) [
          | inl a ↦ rw (c, a, try_pair) (inBank c a)
          | inr a ↦ elim (bool_cases (holds (rows_in ix.pairs) (trial_row w bank t))) [
            | inl p ↦ rw (c, a, p, try_pair) (inPairs c a p)
            | inr p ↦ elim (bool_cases (ltb (length ix.pairs) L)) [
              | inl l ↦ rw (c, a, p, l, try_pair) (new c a p (ltb-true _ _ l))
              | inr l ↦ rw (c, a, p, l, try_pair) (full c a p (ltb-false _ _ l))
            ]
          ]
        ]
      ]

-- ---- all trials, and none twice
module _ (w : ℕ) (gates : List Gate) (bank : List (List ℕ)) where
  -- one pair more, of a new row
  sound_more : (ps : List Pair) (t : Trial) → Tried gates (length bank) t → holds bank (trial_row w bank t) ≡ false → holds (rows_in ps) (trial_row w bank t) ≡ false
      → SoundPairs w gates bank ps → SoundPairs w gates bank (ps ++ (pair_of w bank t ∷ []))
  unfolding trial_row rows_in
  sound_more ps t tried fresh unseen s = record {
    pair = λ k h. elim (eq-or-lt_of_le {n = k} {m = length ps} (omega (arith, length_snoc ps (pair_of w bank t)))) [
      | inl e ↦ subst (SoundPair w gates bank) (sym (get_or_at ps (pair_of w bank t) [] no_pair k (sym e))) last
      | inr l ↦ subst (SoundPair w gates bank) (sym (get_or-append ps (pair_of w bank t ∷ []) no_pair k l)) (s.pair k l)
    ];
    distinct = λ i j lt h same.
        let li : i < length ps = omega (arith, length_snoc ps (pair_of w bank t)) in
        elim (eq-or-lt_of_le {n = j} {m = length ps} (omega (arith, length_snoc ps (pair_of w bank t)))) [
          | inl e ↦ false_true (sym unseen ∙ in_holds (rows_in ps) _
              (subst (λ (r : List ℕ). In r (rows_in ps))
              (ap (λ (p : Pair). p.row) (sym (get_or-append ps (pair_of w bank t ∷ []) no_pair i li)) ∙ same ∙ ap (λ (p : Pair). p.row) (get_or_at ps (pair_of w bank t) [] no_pair j (sym e)))
              (in_map (λ (p : Pair). p.row) (get_or ps i no_pair) ps (in_at no_pair ps i li))))
          | inr l ↦ s.distinct i j lt l
              (ap (λ (p : Pair). p.row) (sym (get_or-append ps (pair_of w bank t ∷ []) no_pair i li)) ∙ same ∙ ap (λ (p : Pair). p.row) (get_or-append ps (pair_of w bank t ∷ []) no_pair j l))
        ];
  }
    where
      last : SoundPair w gates bank (pair_of w bank t)
      last = record {
        gate = tried.gate_in;
        ordered = tried.up;
        below = tried.low;
        row = refl;
        new = λ h. false_true (sym fresh ∙ in_holds bank _ (place_in h));
      }

  sound_none : SoundPairs w gates bank []
  sound_none = record { pair = λ k h. absurd (omega arith); distinct = λ i j lt h. absurd (omega arith) }

  sound_all : (L : ℕ) (ts : List Trial) (ix : Index) → ((t : Trial) → In t ts → In t (trials_of gates (length bank))) → SoundPairs w gates bank ix.pairs
      → SoundPairs w gates bank (try_all w L bank ix ts).pairs
  unfolding try_all
  sound_all L [] ix i s = s
  sound_all L (t ∷ ts) ix i s =
      sound_all L ts (try_pair w L bank ix t) (λ u h. i u (inr h))
      (try_cases w L bank ix t (λ (x : Index). SoundPairs w gates bank x.pairs) (λ _. s) (λ _ _. s) (λ _ _ _. s)
      (λ _ a p _. sound_more ix.pairs t (trials_in gates (length bank) t (i t (inl refl))) a p s) (λ _ _ _ _. s))

-- ---- an index that was cut stays as it is
module _ (w L : ℕ) (bank : List (List ℕ)) where
  pub stays_cut : (ts : List Trial) (ix : Index) → ix.cut ≡ true → try_all w L bank ix ts ≡ ix
  unfolding try_all
  stays_cut [] ix c = refl
  stays_cut (t ∷ ts) ix c =
      let one : try_pair w L bank ix t ≡ ix =
      try_cases w L bank ix t (λ (x : Index). x ≡ ix) (λ _. refl) (λ _ _. refl) (λ _ _ _. refl) (λ n _ _ _. absurd (false_true (sym n ∙ c))) (λ n _ _ _. absurd (false_true (sym n ∙ c))) in
      ap (λ (x : Index). try_all w L bank x ts) one ∙ stays_cut ts ix c

  pub try_append : (ts us : List Trial) (ix : Index) → try_all w L bank ix (ts ++ us) ≡ try_all w L bank (try_all w L bank ix ts) us
  unfolding try_all
  try_append [] us ix = refl
  try_append (t ∷ ts) us ix = try_append ts us (try_pair w L bank ix t)

  -- ---- the first L of all, and the mark
  add-held : (seen : List Pair) (t : Trial) (ts : List Trial) → holds bank (trial_row w bank t) ≡ true → add_new w bank seen (t ∷ ts) ≡ add_new w bank seen ts
  unfolding add_new
  add-held seen t ts e = rw (e, add_new)

  add-seen : (seen : List Pair) (t : Trial) (ts : List Trial) → holds bank (trial_row w bank t) ≡ false → holds (rows_in seen) (trial_row w bank t) ≡ true
      → add_new w bank seen (t ∷ ts) ≡ add_new w bank seen ts
  unfolding add_new
  add-seen seen t ts e f = rw (e, f, add_new)

  add-new : (seen : List Pair) (t : Trial) (ts : List Trial) → holds bank (trial_row w bank t) ≡ false → holds (rows_in seen) (trial_row w bank t) ≡ false
      → add_new w bank seen (t ∷ ts) ≡ add_new w bank (seen ++ (pair_of w bank t ∷ [])) ts
  unfolding add_new
  add-new seen t ts e f = rw (e, f, add_new)

  -- what is seen comes first
  record Begins (seen all : List Pair) : Type 0 where
    long : length seen ≤ length all
    same : take (length seen) all ≡ seen

  begins_more : (seen all : List Pair) (p : Pair) → Begins (seen ++ (p ∷ [])) all → Begins seen all
  begins_more seen all p b =
      let more = length_snoc seen p in
      record {
        long = omega (arith, b.long);
        same = sym (take-take (length seen) (length (seen ++ (p ∷ []))) all (omega arith))
            ∙ ap (λ (l : List Pair). take (length seen) l) b.same
            ∙ take-append-le (length seen) seen (p ∷ []) (omega arith)
            ∙ take_all (length seen) seen (omega arith);
      }

  add_begins : (ts : List Trial) (seen : List Pair) → Begins seen (add_new w bank seen ts)
  unfolding add_new
  add_begins [] seen = record { long = omega arith; same = take_all (length seen) seen (omega arith) }
  add_begins (t ∷ ts) seen =
      elim (bool_cases (holds bank (trial_row w bank t))) [
        | inl a ↦ subst (Begins seen) (sym (add-held seen t ts a)) (add_begins ts seen)
        | inr a ↦ elim (bool_cases (holds (rows_in seen) (trial_row w bank t))) [
          | inl p ↦ subst (Begins seen) (sym (add-seen seen t ts a p)) (add_begins ts seen)
          | inr p ↦ subst (Begins seen) (sym (add-new seen t ts a p)) (begins_more seen _ (pair_of w bank t) (add_begins ts (seen ++ (pair_of w bank t ∷ []))))
        ]
      ]

  -- an index is the first L of all, and is marked if there are more
  record First (all : List Pair) (ix : Index) : Type 0 where
    first : ix.pairs ≡ take L all
    mark : ix.cut ≡ ltb L (length all)

  firsts : (ts : List Trial) (ix : Index) → ix.cut ≡ false → length ix.pairs ≤ L → First (add_new w bank ix.pairs ts) (try_all w L bank ix ts)
  unfolding try_all add_new
  firsts [] ix c l = record { first = sym (take_all L ix.pairs l); mark = c ∙ sym (le-ltb L _ l) }
  firsts (t ∷ ts) ix c l =
      try_cases w L bank ix t (λ (x : Index). First (add_new w bank ix.pairs (t ∷ ts)) (try_all w L bank x ts))
      (λ y. absurd (false_true (sym c ∙ y)))
      (λ _ a. subst (λ (q : List Pair). First q (try_all w L bank ix ts)) (sym (add-held ix.pairs t ts a)) (firsts ts ix c l))
      (λ _ a p. subst (λ (q : List Pair). First q (try_all w L bank ix ts)) (sym (add-seen ix.pairs t ts a p)) (firsts ts ix c l))
      (λ _ a p m. subst (λ (q : List Pair). First q (try_all w L bank (listed ix (pair_of w bank t)) ts)) (sym (add-new ix.pairs t ts a p))
      (firsts ts (listed ix (pair_of w bank t)) refl (omega (arith, length_snoc ix.pairs (pair_of w bank t)))))
      (λ _ a p m. subst (λ (q : List Pair). First q (try_all w L bank (ended ix) ts)) (sym (add-new ix.pairs t ts a p)) (full a p m))
    where
      full : holds bank (trial_row w bank t) ≡ false → holds (rows_in ix.pairs) (trial_row w bank t) ≡ false → L ≤ length ix.pairs
          → First (add_new w bank (ix.pairs ++ (pair_of w bank t ∷ [])) ts) (try_all w L bank (ended ix) ts)
      full a p m =
          let b = add_begins ts (ix.pairs ++ (pair_of w bank t ∷ [])) in
          let e : L ≡ length ix.pairs = omega arith in
          let stay = stays_cut ts (ended ix) refl in
          record {
            first = ap (λ (x : Index). x.pairs) stay ∙ sym (begins_more ix.pairs _ (pair_of w bank t) b).same
                ∙ ap (λ (k : ℕ). take k (add_new w bank (ix.pairs ++ (pair_of w bank t ∷ [])) ts)) (sym e);
            mark = ap (λ (x : Index). x.cut) stay ∙ sym (lt-ltb L _ (omega (arith, b.long, length_snoc ix.pairs (pair_of w bank t))));
          }

pub by_trials : ByTrials
unfolding tried_of index_of all_pairs
by_trials w L gates bank =
    let all = firsts w L bank (trials_of gates (length bank)) no_pairs refl (omega arith) in
    ap₂ (λ (ps : List Pair) (mark : Bool). record { pairs = ps; cut = mark }) all.first all.mark

pub first-pairs : FirstPairs
unfolding index_of
first-pairs w L M gates bank h = sym (take-take L M (all_pairs w gates bank) h)

pub at-most_limit : AtMostLimit
unfolding index_of
at-most_limit w L gates bank = rw length-take (omega arith)

pub index-is_sound : IndexIsSound
unfolding tried_of
index-is_sound w L gates bank =
    subst (λ (ix : Index). SoundPairs w gates bank ix.pairs) (by_trials w L gates bank)
    (sound_all w gates bank L (trials_of gates (length bank)) no_pairs (λ _ h. h) (sound_none w gates bank))

pub pairs-reduced : PairsReduced
pairs-reduced w L gates bank k j h =
    let p = get_or (index_of w L gates bank).pairs k no_pair in
    subst (λ (row : List ℕ). get_or row j 0 < 2 ^ w) (sym ((index-is_sound w L gates bank).pair k h).row) (gate_reduces p.gate w (get_or bank p.b []) (get_or bank p.c []) j)

-- ---- uncut, no row is lost that isn't passed over
module _ (w L : ℕ) (bank : List (List ℕ)) where
  grows : (ts : List Trial) (ix : Index) (r : List ℕ) → In r (rows_in ix.pairs) → In r (rows_in (try_all w L bank ix ts).pairs)
  unfolding try_all
  grows [] ix r h = h
  grows (t ∷ ts) ix r h =
      grows ts (try_pair w L bank ix t) r
      (try_cases w L bank ix t (λ (x : Index). In r (rows_in x.pairs)) (λ _. h) (λ _ _. h) (λ _ _ _. h)
      (λ _ _ _ _. subst (In r) (sym (rows_snoc ix.pairs _)) (in_left r (rows_in ix.pairs) _ h)) (λ _ _ _ _. h))

  step_covers : (ix : Index) (t : Trial) → (try_pair w L bank ix t).cut ≡ false
      → In (trial_row w bank t) bank ⊎ In (trial_row w bank t) (rows_in (try_pair w L bank ix t).pairs)
  step_covers ix t =
      try_cases w L bank ix t (λ (x : Index). x.cut ≡ false → In (trial_row w bank t) bank ⊎ In (trial_row w bank t) (rows_in x.pairs))
      (λ c n. absurd (false_true (sym n ∙ c)))
      (λ _ a _. inl (holds_in bank _ a))
      (λ _ _ p _. inr (holds_in _ _ p))
      (λ _ _ _ _ _. inr (subst (In (trial_row w bank t)) (sym (rows_snoc ix.pairs _)) (in_right _ (rows_in ix.pairs) _ (inl refl))))
      (λ _ _ _ _ n. absurd (false_true (sym n)))

  covers : (ts : List Trial) (ix : Index) → (try_all w L bank ix ts).cut ≡ false → (t : Trial) → In t ts
      → In (trial_row w bank t) bank ⊎ In (trial_row w bank t) (rows_in (try_all w L bank ix ts).pairs)
  unfolding try_all
  covers [] ix c t h = absurd h
  covers (u ∷ ts) ix c t (inr h) = covers ts (try_pair w L bank ix u) c t h
  covers (u ∷ ts) ix c t (inl e) =
      let uncut : (try_pair w L bank ix u).cut ≡ false =
      elim (bool_cases (try_pair w L bank ix u).cut) [
        | inl y ↦ absurd (false_true (sym c ∙ ap (λ (x : Index). x.cut) (stays_cut w L bank ts (try_pair w L bank ix u) y) ∙ y))
        | inr n ↦ n
      ] in
      let q : trial_row w bank u ≡ trial_row w bank t = ap (trial_row w bank) (sym e) in
      elim (step_covers ix u uncut) [
        | inl a ↦ inl (subst (λ r. In r bank) q a)
        | inr p ↦ inr (subst (λ r. In r (rows_in (try_all w L bank (try_pair w L bank ix u) ts).pairs)) q (grows ts (try_pair w L bank ix u) _ p))
      ]

module _ (w L : ℕ) (gates : List Gate) (bank : List (List ℕ)) (uncut : (tried_of w L gates bank).cut ≡ false) where
  abbrev Kept : List ℕ → Type 0
  Kept r = Holds bank r ⊎ Holds (rows_in (tried_of w L gates bank).pairs) r

  tried-kept : (t : Trial) → In t (trials_of gates (length bank)) → Kept (trial_row w bank t)
  unfolding tried_of
  tried-kept t h = elim (covers w L bank (trials_of gates (length bank)) no_pairs uncut t h) [ inl a ↦ inl (in_place [] _ bank a) | inr p ↦ inr (in_place [] _ _ p) ]

  none_lost : NoneLost w gates bank (tried_of w L gates bank).pairs
  unfolding trial_row
  none_lost g i b c hb hc other =
      elim (dec_lt b c) [
        | yes l ↦ tried-kept (record { gate = g; b = b; c = c }) (in_trials gates (length bank) g b c i hb (from-c g b c l) hc)
        | no n ↦ elim (eq-or-lt_of_le {n = c} {m = b} (omega arith)) [
          | inr l ↦ subst Kept (row_comm g w (get_or bank c []) (get_or bank b [])) (tried-kept (record { gate = g; b = c; c = b }) (in_trials gates (length bank) g c b i hc (from-c g c b l) hb))
          | inl e ↦ subst (λ (k : ℕ). Kept (gate_row g w (get_or bank b []) (get_or bank k []))) (sym e) (same (is_false (passes_over g) (λ p. other p (sym e))))
        ]
      ]
    where
      same : passes_over g ≡ false → Kept (gate_row g w (get_or bank b []) (get_or bank b []))
      same p = tried-kept (record { gate = g; b = b; c = b }) (in_trials gates (length bank) g b b i hb (omega (arith, from_itself g b p)) hb)

pub uncut_loses_none : UncutLosesNone
uncut_loses_none w L gates bank =
    subst (λ (ix : Index). ix.cut ≡ false → NoneLost w gates bank ix.pairs) (by_trials w L gates bank) (none_lost w L gates bank)

-- ---- all pairs, as the index whose limit is their number
module _ (w : ℕ) (gates : List Gate) (bank : List (List ℕ)) where
  abbrev number : ℕ
  number = length (all_pairs w gates bank)

  whole : (index_of w number gates bank).pairs ≡ all_pairs w gates bank
  unfolding index_of
  whole = take_all number (all_pairs w gates bank) (omega arith)

  unmarked : (index_of w number gates bank).cut ≡ false
  unfolding index_of
  unmarked = le-ltb number number (omega arith)

pub all-are_sound : AllAreSound
all-are_sound w gates bank = subst (SoundPairs w gates bank) (whole w gates bank) (index-is_sound w (number w gates bank) gates bank)

pub all_lose_none : AllLoseNone
all_lose_none w gates bank = subst (NoneLost w gates bank) (whole w gates bank) (uncut_loses_none w (number w gates bank) gates bank (unmarked w gates bank))

-- ---- the small case, by computing
pub passed_over_is_lost : PassedOverIsLost
unfolding index_of all_pairs add_new trials_of trials_of_gate trials_with trials_up_to first_c trial_row rows_in holds all_gates gate_row gate_of same_row count_up
passed_over_is_lost = record { whole = refl; row = refl; no_atom_lem = refl; no_pair_lem = refl }
