-- Demand 3, "nothing" is true: trying everything finds nothing exactly when no atom times an atom, or times a gate of two atoms, is the target; for the
-- pairs of an uncut index are the rows of all gates that the bank lacks, but for And and Or of an atom with itself, which has that atom's products. Assumes nothing.
use mathlib.Core.Path.{◌≡◌, refl, sym, ap, ◌∙◌, subst}
use mathlib.Core.Bool.{true}
use mathlib.Core.Logic.{◌⊎◌, inl, inr}
use mathlib.Core.List.{List}
use Prim.Native.Nat.{ℕ, ◌*◌, ◌%◌, ◌^◌, ◌<◌}
use native.Mathlib.Omega.{arith}
use lib.ListN.{length, get_or}
use Rattle.arith.proofs.Remainders.{mul-mod-mod}
use Rattle.arrays.specs.Parts.{part_at}
use Rattle.arrays.proofs.Lists.{false_true, is_false, get_d_map}
use Rattle.row_gates.specs.Gates.{reduced_row}
use Rattle.search_product_trial.specs.Trying.{fits, try_everything}
use Rattle.search_product.specs.Answer.{search_refusal}
use Rattle.search_product.specs.Demand.{Equal, NoProduct, OwnIndex, Uncut, NothingExactly, DemandThree}
use Rattle.search_product.proofs.Trials.{NoneFits, nothing-fits, fits-nothing, fits-equal, equal-fits}
use Rattle.search_product.proofs.Passing.{none-refused}
use Rattle.search_product.proofs.OwnPairs.{Has, Fit, answered, zero_of, atom-long, gate-row-long, pair-gated, none_lost}

module _ {w count : ℕ} {atoms : List ℕ} {L n : ℕ} {listed order : List ℕ} (own : OwnIndex w count atoms L n listed order) (fit : Fit w count atoms L) (target : List ℕ)
    (long : length target ≡ 16) where
  abbrev None : Type 0
  None = NoneFits w count atoms n listed target

  -- a row that is an atom's or a pair's, and fits with atom a
  with_row : None → (a : ℕ) (row : List ℕ) → a < count → length row ≡ 16 → Has count atoms row ⊎ Has n listed row → Equal w target (part_at 16 atoms a) row → ⊥
  with_row lacks a row ha l h e = elim h [
    | inl i ↦ false_true (sym (lacks.two a i.slot ha i.below) ∙ subst (λ (r : List ℕ). fits w target (part_at 16 atoms a) r ≡ true) (sym i.is) fitting)
    | inr i ↦ false_true (sym (lacks.pair a i.slot ha i.below) ∙ subst (λ (r : List ℕ). fits w target (part_at 16 atoms a) r ≡ true) (sym i.is) fitting)
  ]
    where
      fitting : fits w target (part_at 16 atoms a) row ≡ true
      fitting = equal-fits w target (part_at 16 atoms a) row long (atom-long fit a ha) l e

  -- an atom's row reduced has the products that the atom has
  as_atom : (b : ℕ) → b < count → (a : List ℕ) → Equal w target a (reduced_row w (part_at 16 atoms b)) → Equal w target a (part_at 16 atoms b)
  as_atom b hb a e j h =
      let x = get_or (part_at 16 atoms b) j 0 in
      sym (mul-mod-mod (get_or a j 0) x (2 ^ w))
      ∙ ap (λ (v : ℕ). get_or a j 0 * v % 2 ^ w) (sym (get_d_map (λ (v : ℕ). v % 2 ^ w) (part_at 16 atoms b) j 0 0 (omega (arith, atom-long fit b hb))))
      ∙ e j h

  no_product : Uncut w count atoms L → None → NoProduct w count atoms target
  no_product uncut lacks = record {
    of_two = two;
    of_gate = λ g a b c ha hb hc e. elim (none_lost fit own uncut g b c hb hc) [
      | inl h ↦ with_row lacks a _ ha (gate-row-long fit g b c hb hc) h e
      | inr p ↦ two a b ha hb (as_atom b hb (part_at 16 atoms a) (subst (Equal w target (part_at 16 atoms a)) p e))
    ];
  }
    where
      two : (a b : ℕ) → a < count → b < count → Equal w target (part_at 16 atoms a) (part_at 16 atoms b) → ⊥
      two a b ha hb = with_row lacks a _ ha (atom-long fit b hb) (inl (record { slot = b; below = hb; is = refl }))

  -- this half holds of a cut index too
  none-fits : NoProduct w count atoms target → None
  none-fits lacks = record {
    two = λ a b ha hb. is_false _ (λ e.
        lacks.of_two a b ha hb (fits-equal w target (part_at 16 atoms a) (part_at 16 atoms b) long (atom-long fit a ha) (atom-long fit b hb) e));
    pair = λ a s ha hs. is_false _ (λ e.
        let p = pair-gated fit own s hs in
        let wide = gate-row-long fit p.g p.b p.c p.b-below p.c-below in
        lacks.of_gate p.g a p.b p.c ha p.b-below p.c-below
        (fits-equal w target (part_at 16 atoms a) _ long (atom-long fit a ha) wide (subst (λ (r : List ℕ). fits w target (part_at 16 atoms a) r ≡ true) p.is e)));
  }

pub nothing_exactly : NothingExactly
nothing_exactly w count atoms L n listed order target f found own uncut long e =
    let number = search_refusal w count atoms n listed order target f in
    let done = answered number (try_everything w count atoms n listed target f) found e in
    let fit : Fit w count atoms L = record { rows = (none-refused w count atoms n listed order target f (zero_of number done.free) long).atoms-fit } in (
      λ is. no_product own fit target long uncut (nothing-fits w count atoms n listed target f (done.is ∙ is)),
      λ lacks. sym done.is ∙ fits-nothing w count atoms n listed target f (none-fits own fit target long lacks),
    )

pub demand_three : DemandThree
demand_three w count atoms L n listed order target f found bank = nothing_exactly w count atoms L n listed order target f found
