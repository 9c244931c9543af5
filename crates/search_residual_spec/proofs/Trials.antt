-- Laws of trying everything: which trials there are, when none hits, and what a hit means. Assumes nothing.
use mathlib.Core.Path.{◌≡◌, sym, ap, ◌∙◌, subst}
use mathlib.Core.Bool.{true, false}
use mathlib.Core.Logic.{inl, inr}
use mathlib.Core.List.{List, map, flat_map}
use mathlib.Core.Option.{none, some}
use Prim.Native.Nat.{ℕ, ◌^◌, ◌<◌}
use native.Mathlib.Nat.{mod-eq_of_lt}
use native.Mathlib.Omega.{arith}
use lib.ListN.{length, get_or}
use lib.Seq.{ext_get_or}
use Rattle.arrays.specs.Lists.{count_up, In}
use Rattle.arrays.specs.Parts.{part_at}
use Rattle.arrays.proofs.Lists.{in_left, in_right, in_split, in_map, map_in, in_flat, flat_in, up_in, in_up, first-none, first_passes, none_passes}
use Rattle.row_gates.specs.Gates.{gate_of, residual_of, invertible, same_row}
use Rattle.row_gates.specs.declared.Gate.{Gate}
use Rattle.row_gates.proofs.GateLaws.{gate_lt, residual_completes, residual-only}
use Rattle.row_gates.proofs.Rows.{length-residual_row, get_or-residual_row, same-row_eq, same-row_of}
use Rattle.search_residual_trial.specs.Trying.{outer_gates, Completion, completing, hits, lookups, under_gate, try_residuals}
use Rattle.search_residual_spec.specs.Sums.{Outer, Gives}

-- ---- the two outer gates
outer_in : (g : Gate) → Outer g → In g outer_gates
outer_in g (inl e) = inl e
outer_in g (inr e) = inr (inl e)

in_outer : (g : Gate) → In g outer_gates → Outer g
in_outer g (inl e) = inl e
in_outer g (inr (inl e)) = inr e
in_outer g (inr (inr x)) = elim x [ ]

-- both invert
outer_inverts : (g : Gate) → Outer g → invertible g ≡ true
outer_inverts g (inl e) = ap invertible e
outer_inverts g (inr e) = ap invertible e

-- ---- a row is the one that completes a exactly if both give the target
module _ (outer : Gate) (is : Outer outer) (w : ℕ) (target atoms : List ℕ) (a : ℕ) (row : List ℕ) (long : length target ≡ 16) (long-a : length (part_at 16 atoms a) ≡ 16) where
  word : (j : ℕ) → j < 16 → get_or (completing outer w target atoms a) j 0 ≡ residual_of outer w (get_or target j 0) (get_or (part_at 16 atoms a) j 0)
  word j h = get_or-residual_row outer w target (part_at 16 atoms a) j (omega arith) (omega arith)

  pub hit-gives : ((j : ℕ) → j < 16 → get_or target j 0 < 2 ^ w) → same_row row (completing outer w target atoms a) ≡ true → Gives outer w target (part_at 16 atoms a) row
  hit-gives low e j h =
      ap (gate_of outer w (get_or (part_at 16 atoms a) j 0)) (ap (λ (l : List ℕ). get_or l j 0) (same-row_eq row (completing outer w target atoms a) e) ∙ word j h)
      ∙ residual_completes outer (outer_inverts outer is) w (get_or target j 0) (get_or (part_at 16 atoms a) j 0)
      ∙ mod-eq_of_lt (low j h)

  pub gives-hit : length row ≡ 16 → ((j : ℕ) → j < 16 → get_or row j 0 < 2 ^ w) → Gives outer w target (part_at 16 atoms a) row → same_row row (completing outer w target atoms a) ≡ true
  gives-hit long-r low gives =
      let lc = length-residual_row outer w target (part_at 16 atoms a) (long ∙ sym long-a) in
      same-row_of (ext_get_or 0 row (completing outer w target atoms a) (omega arith) (λ j h.
      let small : j < 16 = omega arith in
      let reduced : get_or target j 0 < 2 ^ w = subst (λ (x : ℕ). x < 2 ^ w) (gives j small) (gate_lt outer w (get_or (part_at 16 atoms a) j 0) (get_or row j 0)) in
      sym (mod-eq_of_lt (low j small))
      ∙ residual-only outer (outer_inverts outer is) w (get_or target j 0) (get_or (part_at 16 atoms a) j 0) (get_or row j 0) (gives j small ∙ sym (mod-eq_of_lt reduced))
      ∙ sym (word j small)))

-- ---- the trials: under each outer gate every atom with every atom and every pair
module _ (w count : ℕ) (atoms : List ℕ) (n : ℕ) (listed target : List ℕ) where
  -- a trial by its parts
  pub data Tried : Completion → Type 0 where
    two : (x : Completion) (g : Gate) (a b : ℕ) → x ≡ Completion.of_atoms g a b → Outer g → a < count → b < count → Tried x
    pair : (x : Completion) (g : Gate) (a s : ℕ) → x ≡ Completion.of_pair g a s → Outer g → a < count → s < n → Tried x

  abbrev all : List Completion
  all = flat_map (under_gate count n) outer_gates

  -- a lookup of an atom under an outer gate
  in_all : (g : Gate) → Outer g → (a : ℕ) → a < count → (x : Completion) → In x (lookups count n g a) → In x all
  unfolding under_gate
  in_all g o a h x i = in_flat (under_gate count n) g x outer_gates (outer_in g o) (in_flat (lookups count n g) a x (count_up 0 count) (up_in count a h) i)

  in_two : (g : Gate) → Outer g → (a b : ℕ) → a < count → b < count → In (Completion.of_atoms g a b) all
  unfolding lookups
  in_two g o a b ha hb =
      in_all g o a ha (Completion.of_atoms g a b)
      (in_left _ (map (Completion.of_atoms g a) (count_up 0 count)) (map (Completion.of_pair g a) (count_up 0 n)) (in_map (Completion.of_atoms g a) b (count_up 0 count) (up_in count b hb)))

  in_pair : (g : Gate) → Outer g → (a s : ℕ) → a < count → s < n → In (Completion.of_pair g a s) all
  unfolding lookups
  in_pair g o a s ha hs =
      in_all g o a ha (Completion.of_pair g a s)
      (in_right _ (map (Completion.of_atoms g a) (count_up 0 count)) (map (Completion.of_pair g a) (count_up 0 n)) (in_map (Completion.of_pair g a) s (count_up 0 n) (up_in n s hs)))

  tried : (x : Completion) → In x all → Tried x
  unfolding under_gate lookups
  tried x i =
      let g = flat_in (under_gate count n) x outer_gates i in
      let a = flat_in (lookups count n g.of) x (count_up 0 count) g.at in
      let o = in_outer g.of g.within in
      let h = in_up count a.of a.within in
      elim (in_split x (map (Completion.of_atoms g.of a.of) (count_up 0 count)) (map (Completion.of_pair g.of a.of) (count_up 0 n)) a.at) [
        | inl p ↦ let b = map_in (Completion.of_atoms g.of a.of) x (count_up 0 count) p in two x g.of a.of b.of b.is o h (in_up count b.of b.at)
        | inr p ↦ let s = map_in (Completion.of_pair g.of a.of) x (count_up 0 n) p in pair x g.of a.of s.of s.is o h (in_up n s.of s.at)
      ]

  -- no lookup hits
  pub record NoneHits : Type 0 where
    pub two : (g : Gate) → Outer g → (a b : ℕ) → a < count → b < count → same_row (part_at 16 atoms b) (completing g w target atoms a) ≡ false
    pub pair : (g : Gate) → Outer g → (a s : ℕ) → a < count → s < n → same_row (part_at 16 listed s) (completing g w target atoms a) ≡ false

  pub nothing-hits : try_residuals w count atoms n listed target ≡ none → NoneHits
  unfolding try_residuals hits
  nothing-hits e = record {
    two = λ g o a b ha hb. none_passes (hits w atoms listed target) all e (Completion.of_atoms g a b) (in_two g o a b ha hb);
    pair = λ g o a s ha hs. none_passes (hits w atoms listed target) all e (Completion.of_pair g a s) (in_pair g o a s ha hs);
  }

  pub hits-nothing : NoneHits → try_residuals w count atoms n listed target ≡ none
  unfolding try_residuals hits
  hits-nothing h = first-none (hits w atoms listed target) all (λ x i. go x (tried x i))
    where
      go : (x : Completion) → Tried x → hits w atoms listed target x ≡ false
      go x (two _ g a b e o ha hb) = ap (hits w atoms listed target) e ∙ h.two g o a b ha hb
      go x (pair _ g a s e o ha hs) = ap (hits w atoms listed target) e ∙ h.pair g o a s ha hs

  -- what is found was tried, and hits
  pub record Found (x : Completion) : Type 0 where
    pub is-tried : Tried x
    pub hit : hits w atoms listed target x ≡ true

  pub found-hits : (x : Completion) → try_residuals w count atoms n listed target ≡ some x → Found x
  unfolding try_residuals
  found-hits x e = let p = first_passes (hits w atoms listed target) all x e in record { is-tried = tried x p.0; hit = p.1 }
