-- Laws of the list that a sweep fills: what it holds and what is left to keep are what is to be kept. Assumes nothing.
use mathlib.Core.Path.{◌≡◌, refl, sym, ap, ap₂, ◌∙◌}
use mathlib.Core.Bool.{Bool, true}
use mathlib.Core.List.{List, ◌++◌, append_assoc, append-nil}
use Prim.Native.Nat.{ℕ, ◌+◌, ◌-◌, ◌%◌, ◌^◌, ◌≤◌, ◌<◌}
use native.Mathlib.Omega.{arith}
use lib.Dec.{eqb}
use lib.ListN.{length, take, drop, get_or, length-drop, take-append-drop}
use lib.Seq.{length-take-le, drop-drop, length-paste, take-paste, drop-paste}
use Rattle.arrays.specs.Lists.{keep}
use Rattle.search_filter.specs.declared.inner.Residue.{Residue}
use Rattle.search_filter.specs.declared.inner.Sweep.{Sweep}
use Rattle.search_filter.specs.Sweeps.{in_class, Sweeping, Settled}
use Rattle.search_filter.proofs.PlaceLaws.{keep-skips, keep_end}
use Rattle.search_candidates.specs.Steps.{RunListed, Kept}
use Rattle.search_candidates.proofs.Runs.{keep_run}

-- k slots are listed where the sweep stands
pub record Filling (c : Residue) (n : ℕ) (rows order old new : List ℕ) (s : Sweep) (k : ℕ) : Type 0 where
  pub sweeping : Sweeping c n rows order s
  pub stops : s.at < n → in_class c rows (get_or order s.at 0) ≡ true
  pub size : length new ≡ length old
  pub few : k ≤ s.at
  pub front : keep (in_class c rows) (take n order) ≡ take k new ++ keep (in_class c rows) (drop s.at (take n order))
  pub rest : drop k new ≡ drop k old

module _ (c : Residue) (n : ℕ) (rows order old : List ℕ) (fit : n ≤ length order) (room : n ≤ length old) where
  abbrev test : ℕ → Bool
  test = in_class c rows

  abbrev left : ℕ → List ℕ
  left k = keep test (drop k (take n order))

  pub filling_start : (s : Sweep) → Settled c n rows order 0 s → Filling c n rows order old old s 0
  filling_start s f = record {
    sweeping = f.sweeping;
    stops = f.stops;
    size = refl;
    few = omega arith;
    front = keep-skips test n order fit 0 s.at f.from f.sweeping.within f.skips;
    rest = refl;
  }

  module _ (new : List ℕ) (s : Sweep) (k : ℕ) (f : Filling c n rows order old new s k) where
    -- a run is listed, and the sweep goes on after it
    pub filling_more : (new' : List ℕ) (r : ℕ) (s' : Sweep) → s.at < n → RunListed n rows order new new' s.at k r → Settled c n rows order r s'
        → Filling c n rows order old new' s' (k + (r - s.at))
    filling_more new' r s' h run g =
        let at = s.at in
        let d = r - at in
        let slots = drop at order in
        let end : at + d ≡ r = omega (arith, run.more) in
        let room-d : k + d ≤ length new = omega (arith, f.few, f.size, run.more, run.to) in
        let fit-d : d ≤ length slots = omega (arith, run.to, length-drop at order) in
        let each : (i : ℕ) → at ≤ i → i < at + d → test (get_or order i 0) ≡ true = λ i l b. ap (λ (w : ℕ). eqb (w % 2 ^ (c.w - c.zeros)) c.first) (run.same i l (omega arith)) ∙ f.stops h in
        record {
          sweeping = g.sweeping;
          stops = g.stops;
          size = ap length run.whole ∙ length-paste new k slots d room-d fit-d ∙ f.size;
          few = omega (arith, f.few, g.from, run.more);
          front =
              f.front
              ∙ ap (λ (l : List ℕ). take k new ++ l) (keep_run test n order fit at d (omega (arith, run.to)) each)
              ∙ sym (append_assoc (take k new) (take d slots) (left (at + d)))
              ∙ ap₂ (λ (l m : List ℕ). l ++ m)
              (sym (ap (take (k + d)) run.whole ∙ take-paste new k slots d (omega (arith, room-d)) fit-d))
              (ap left end ∙ keep-skips test n order fit r s'.at g.from g.sweeping.within g.skips);
          rest =
              ap (drop (k + d)) run.whole
              ∙ drop-paste new k slots d (omega (arith, room-d)) fit-d
              ∙ sym (drop-drop d k new)
              ∙ ap (drop d) f.rest
              ∙ drop-drop d k old;
        }

    pub filling_end : n ≤ s.at → Kept test n order old new k
    filling_end h =
        let front : keep test (take n order) ≡ take k new = f.front ∙ ap (λ (l : List ℕ). take k new ++ l) (keep_end test n order fit s.at h) ∙ append-nil (take k new) in
        record {
          within = omega (arith, f.few, f.sweeping.within);
          count = sym (ap length front ∙ length-take-le k new (omega (arith, f.few, f.size, f.sweeping.within)));
          whole = sym (take-append-drop k new) ∙ ap₂ (λ (l m : List ℕ). l ++ m) (sym front) f.rest;
        }
