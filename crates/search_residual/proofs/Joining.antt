-- What the passes over the bank and over the index tell is the answer of trying everything. Assumes nothing.
use mathlib.Core.Path.{◌≡◌, refl, sym, ap, ap₂, ◌∙◌}
use mathlib.Core.Logic.{◌⊎◌, inl, inr}
use mathlib.Core.List.{List, map}
use mathlib.Core.Option
use mathlib.Core.Option.{Option, none, some, or_else}
use Prim.Native.Nat.{ℕ, suc, ◌-◌, ◌*◌, ◌≤◌, ◌<◌}
use native.Mathlib.Omega.{arith}
use Rattle.arrays.specs.Lists.{count_up, first_that, first_of}
use Rattle.arrays.specs.Parts.{part_at}
use Rattle.arrays.proofs.Lists.{up_from, up-hit, up-nothing, first-append, first-map, first_flat, or_none, of_nothing, of_something}
use Rattle.limits.proofs.Refusals.{le_or_lt}
use Rattle.row_gates.specs.Gates.{same_row}
use Rattle.row_gates.specs.declared.Gate.{Gate}
use Rattle.row_gates.specs.declared.Gate.TheVariants.{Xor, Add}
use Rattle.search_residual_trial.specs.Trying.{Completion, completing, hits, lookups, under_gate, try_residuals, outer_gates}
use Rattle.search_residual_trial.specs.Steps.{wanted, same}
use Rattle.search_residual_trial.proofs.Numbering.{wanted_xor, wanted-add}
use Rattle.search_residual_map.specs.declared.First.{First}
use Rattle.search_residual_map.specs.Map.{LeastSlot, Best}
use Rattle.search_residual.specs.Told.{told, told_under, told_first}
use Rattle.search_residual.proofs.Telling.{told-bank, told-index, told_none}

module _ (w count : ℕ) (atoms : List ℕ) (n : ℕ) (listed target : List ℕ) (bank index : First)
    (in-bank : Best w count atoms target atoms count 0 bank.at bank.slot)
    (in-index : Best w count atoms target listed n bank.at index.at index.slot) where
  -- the first hit among an atom's lookups
  abbrev tried : Gate → ℕ → Option Completion
  tried g a = first_that (hits w atoms listed target) (lookups count n g a)

  -- residual row t is atom a's under g
  module _ (g : Gate) (a t : ℕ) (low : t < 2 * count) (is : wanted w count atoms target t ≡ completing g w target atoms a) where
    by_slots : tried g a ≡ or_else (Option.map (Completion.of_atoms g a) (first_that (same w count atoms target atoms t) (count_up 0 count)))
        (Option.map (Completion.of_pair g a) (first_that (same w count atoms target listed t) (count_up 0 n)))
    unfolding lookups hits same
    by_slots =
        first-append (hits w atoms listed target) (map (Completion.of_atoms g a) (count_up 0 count)) (map (Completion.of_pair g a) (count_up 0 n))
        ∙ ap₂ (λ (o p : Option Completion). or_else o p)
        (first-map (hits w atoms listed target) (same w count atoms target atoms t) (Completion.of_atoms g a) (λ b. ap (same_row (part_at 16 atoms b)) (sym is)) (count_up 0 count))
        (first-map (hits w atoms listed target) (same w count atoms target listed t) (Completion.of_pair g a) (λ s. ap (same_row (part_at 16 listed s)) (sym is)) (count_up 0 n))

    least_first : {rows : List ℕ} {m found : ℕ} → LeastSlot w count atoms target rows m t found → first_that (same w count atoms target rows t) (count_up 0 m) ≡ some found
    least_first {rows} {m} {found} l = sym (up_from (same w count atoms target rows t) m found (omega (arith, l.below)) l.least) ∙ up-hit (same w count atoms target rows t) m found l.below l.is

    not_in_bank : bank.at ≤ t → first_that (same w count atoms target atoms t) (count_up 0 count) ≡ none
    not_in_bank h = up-nothing (same w count atoms target atoms t) count (in-bank.none t h low)

    by_parts : (o p : Option ℕ) → first_that (same w count atoms target atoms t) (count_up 0 count) ≡ o → first_that (same w count atoms target listed t) (count_up 0 n) ≡ p
        → tried g a ≡ or_else (Option.map (Completion.of_atoms g a) o) (Option.map (Completion.of_pair g a) p)
    by_parts o p eo ep = by_slots ∙ ap₂ (λ (x y : Option ℕ). or_else (Option.map (Completion.of_atoms g a) x) (Option.map (Completion.of_pair g a) y)) eo ep

    -- before the first hit
    before-told : index.at ≤ t → told g a (suc t) bank index ≡ none
    before-told h = told_none g a (suc t) bank index (λ e. omega (arith, in-index.least)) (λ e. omega arith)

    before-tried : index.at ≤ t → tried g a ≡ none
    unfolding or_else
    before-tried h = by_parts none none (not_in_bank (omega (arith, in-index.least))) (up-nothing (same w count atoms target listed t) n (in-index.none t h low))

    -- at it
    pub record Hit : Type 0 where
      pub found : Completion
      pub is-told : told g a (suc t) bank index ≡ some found
      pub is-tried : tried g a ≡ some found

    here : index.at ≡ suc t → Hit
    unfolding or_else
    here e = elim (le_or_lt bank.at t) [
      | inl past ↦ record {
        found = Completion.of_pair g a index.slot;
        is-told = told-index g a (suc t) bank index (λ q. omega arith) (sym e);
        is-tried = by_parts none (some index.slot) (not_in_bank past) (least_first (in-index.hit t e past));
      }
      | inr at ↦
          let q : bank.at ≡ suc t = omega (arith, in-index.least) in
          record {
            found = Completion.of_atoms g a bank.slot;
            is-told = told-bank g a (suc t) bank index (sym q);
            is-tried = by_parts (some bank.slot) _ (least_first (in-bank.hit t q (omega arith))) refl;
          }
    ]

  -- ---- the atoms under one gate, whose residual rows are numbered down from `top`
  module _ (g : Gate) (top : ℕ) (room : count ≤ top) (most : top ≤ 2 * count) (is : (a : ℕ) → a < count → wanted w count atoms target (top - a - 1) ≡ completing g w target atoms a) where
    abbrev telling : ℕ → Option Completion
    telling a = told g a (top - a) bank index

    entry_of : (a : ℕ) → a < count → top - a ≡ suc (top - a - 1)
    entry_of a h = omega arith

    told-before : (a : ℕ) → a < count → index.at < top - a → telling a ≡ none
    told-before a h l =
        ap (λ (e : ℕ). told g a e bank index) (entry_of a h) ∙ before-told g a (top - a - 1) (omega arith) (is a h) (omega arith)

    tried-before : (a : ℕ) → a < count → index.at < top - a → tried g a ≡ none
    tried-before a h l = before-tried g a (top - a - 1) (omega arith) (is a h) (omega arith)

    -- the first hit is none of theirs
    pub none_told : index.at ≤ top - count → told_under g top count bank index ≡ none
    none_told l = of_nothing telling count (λ a h. told-before a h (omega arith))

    pub none_tried : index.at ≤ top - count → first_of (tried g) (count_up 0 count) ≡ none
    none_tried l = of_nothing (tried g) count (λ a h. tried-before a h (omega arith))

    -- it is one of theirs
    pub record Both : Type 0 where
      pub found : Completion
      pub is-told : told_under g top count bank index ≡ some found
      pub is-tried : first_of (tried g) (count_up 0 count) ≡ some found

    pub one_told : top - count < index.at → index.at ≤ top → Both
    one_told l m =
        let a : ℕ = top - index.at in
        let h : a < count = omega arith in
        let e : index.at ≡ suc (top - a - 1) = omega arith in
        let hit = here g a (top - a - 1) (omega arith) (is a h) e in
        record {
          found = hit.found;
          is-told = of_something telling count a hit.found h (λ k lk. told-before k (omega arith) (omega arith)) (ap (λ (e : ℕ). told g a e bank index) (entry_of a h) ∙ hit.is-told);
          is-tried = of_something (tried g) count a hit.found h (λ k lk. tried-before k (omega arith) (omega arith)) hit.is-tried;
        }

  -- ---- both gates
  abbrev xors : Option Completion
  xors = first_of (tried Xor) (count_up 0 count)

  abbrev adds : Option Completion
  adds = first_of (tried Add) (count_up 0 count)

  by_gates : try_residuals w count atoms n listed target ≡ or_else xors adds
  unfolding try_residuals under_gate first_of
  by_gates =
      first_flat (hits w atoms listed target) (under_gate count n) outer_gates
      ∙ ap₂ (λ (x y : Option Completion). or_else x y)
      (first_flat (hits w atoms listed target) (lookups count n Xor) (count_up 0 count))
      (or_none (first_that (hits w atoms listed target) (under_gate count n Add)) ∙ first_flat (hits w atoms listed target) (lookups count n Add) (count_up 0 count))

  pub told-is-tried : told_first count bank index ≡ try_residuals w count atoms n listed target
  unfolding or_else
  told-is-tried = join (le_or_lt index.at count) ∙ sym by_gates
    where
      of_xor : (a : ℕ) → a < count → wanted w count atoms target (2 * count - a - 1) ≡ completing Xor w target atoms a
      of_xor = wanted_xor w count atoms target

      of_add : (a : ℕ) → a < count → wanted w count atoms target (count - a - 1) ≡ completing Add w target atoms a
      of_add = wanted-add w count atoms target

      under_add : index.at ≤ count → told_under Add count count bank index ≡ adds
      under_add l = elim (le_or_lt index.at 0) [
        | inl z ↦ none_told Add count (omega arith) (omega arith) of_add (omega arith) ∙ sym (none_tried Add count (omega arith) (omega arith) of_add (omega arith))
        | inr p ↦ let b = one_told Add count (omega arith) (omega arith) of_add (omega arith) l in b.is-told ∙ sym b.is-tried
      ]

      join : (index.at ≤ count) ⊎ (count < index.at) → told_first count bank index ≡ or_else xors adds
      join (inl l) =
          ap₂ (λ (x y : Option Completion). or_else x y)
          (none_told Xor (2 * count) (omega arith) (omega arith) of_xor (omega arith) ∙ sym (none_tried Xor (2 * count) (omega arith) (omega arith) of_xor (omega arith)))
          (under_add l)
      join (inr l) =
          let b = one_told Xor (2 * count) (omega arith) (omega arith) of_xor (omega arith) in-index.most in
          ap (λ (x : Option Completion). or_else x (told_under Add count count bank index)) b.is-told
          ∙ sym (ap (λ (x : Option Completion). or_else x adds) b.is-tried)
