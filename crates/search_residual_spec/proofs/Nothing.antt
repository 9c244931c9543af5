-- 02, 2.1: what is shown completes to the target, and nothing is found exactly when no sum and no xor is the target. Assumes nothing.
use mathlib.Core.Path.{◌≡◌, sym, ap, ◌∙◌, subst}
use mathlib.Core.Bool.{true}
use mathlib.Core.Logic.{◌⊎◌, ◌↔◌, inl, inr}
use mathlib.Core.List.{List}
use mathlib.Core.Option.{Option, none, some}
use Prim.Native.Nat.{ℕ, ◌%◌, ◌^◌, ◌<◌}
use native.Mathlib.Nat.{mod-lt}
use native.Mathlib.Omega.{arith}
use lib.ListN.{length, get_or, length-map}
use lib.Pow.{pow_pos}
use Rattle.arrays.specs.Parts.{part_at}
use Rattle.arrays.proofs.Lists.{false_true, is_false, get_d_map}
use Rattle.limits.specs.Refusal.{answer}
use Rattle.row_gates.specs.Gates.{gate_of, gate_row, reduced_row, same_row}
use Rattle.row_gates.specs.declared.Gate.{Gate}
use Rattle.row_gates.specs.declared.Gate.TheVariants.{Xor}
use Rattle.row_gates.proofs.GateLaws.{gate_raw_right}
use Rattle.row_gates.proofs.Rows.{row_nought, gate_reduces, reduced-is}
use Rattle.search_product.specs.Demand.{OwnIndex, Uncut}
use Rattle.search_product.proofs.OwnPairs.{Has, Fit, answered, zero_of, atom-long, gate-row-long, pair-gated, tried-kept, none_lost}
use Rattle.search_residual_trial.specs.Trying.{Completion, completing, hits, try_residuals}
use Rattle.search_residual.specs.Answer.{residual_refusal, completion}
use Rattle.search_residual.specs.Told.{Lent}
use Rattle.search_residual.proofs.Passing.{none-refused}
use Rattle.search_residual_spec.specs.Sums.{Outer, Gives, RowsBelow, ZeroAtom, NoResidual, Completes, ShownCompletes, NothingCompletes, NothingWithZero, SumsAndXors}
use Rattle.search_residual_spec.proofs.Trials.{hit-gives, gives-hit, Tried, NoneHits, nothing-hits, hits-nothing, found-hits}

-- ---- what is shown
module _ {w count : ℕ} {atoms : List ℕ} {n : ℕ} {listed target : List ℕ} (lent : Lent w count atoms n listed target) where
  long-atom : (a : ℕ) → a < count → length (part_at 16 atoms a) ≡ 16
  long-atom = let fit : Fit w count atoms 0 = record { rows = lent.atoms-fit } in atom-long fit

  -- a row that a lookup of atom a found
  given : (outer : Gate) → Outer outer → (a : ℕ) → a < count → (row : List ℕ) → same_row row (completing outer w target atoms a) ≡ true → Gives outer w target (part_at 16 atoms a) row
  given outer o a h row = hit-gives outer o w target atoms a row lent.long (long-atom a h) lent.reduced

  completes : (x : Completion) → Tried w count atoms n listed target x → hits w atoms listed target x ≡ true → Completes w count atoms n listed target x
  unfolding hits
  completes x (Tried.two _ g a b e o ha hb) hit =
      subst (λ (y : Completion). Completes w count atoms n listed target y) (sym e)
      record { gate = o; atom = ha; within = hb; gives = given g o a ha (part_at 16 atoms b) (ap (hits w atoms listed target) (sym e) ∙ hit) }
  completes x (Tried.pair _ g a s e o ha hs) hit =
      subst (λ (y : Completion). Completes w count atoms n listed target y) (sym e)
      record { gate = o; atom = ha; within = hs; gives = given g o a ha (part_at 16 listed s) (ap (hits w atoms listed target) (sym e) ∙ hit) }

-- ---- "nothing"
-- a row that gives the target with another does so reduced
gives-reduced : (outer : Gate) (w : ℕ) (target a row : List ℕ) → length row ≡ 16 → Gives outer w target a row → Gives outer w target a (reduced_row w row)
gives-reduced outer w target a row long gives j h =
    ap (gate_of outer w (get_or a j 0)) (get_d_map (λ (v : ℕ). v % 2 ^ w) row j 0 0 (omega arith))
    ∙ gate_raw_right outer w (get_or a j 0) (get_or row j 0)
    ∙ gives j h

module _ {w count : ℕ} {atoms : List ℕ} {L n : ℕ} {listed order target : List ℕ} (lent : Lent w count atoms n listed target)
    (own : OwnIndex w count atoms L n listed order) (fit : Fit w count atoms L) where
  -- a row is an atom's or a pair's
  abbrev Kept : List ℕ → Type 0
  Kept row = Has count atoms row ⊎ Has n listed row

  -- such a row, below 2^w, that gives the target with atom a
  with_row : NoneHits w count atoms n listed target → (outer : Gate) → Outer outer → (a : ℕ) (row : List ℕ) → a < count → length row ≡ 16 → ((j : ℕ) → j < 16 → get_or row j 0 < 2 ^ w)
      → Kept row → Gives outer w target (part_at 16 atoms a) row → ⊥
  with_row lacks outer o a row ha l low h gives = elim h [
    | inl i ↦ false_true (sym (lacks.two outer o a i.slot ha i.below) ∙ subst (λ (r : List ℕ). same_row r (completing outer w target atoms a) ≡ true) (sym i.is) hit)
    | inr i ↦ false_true (sym (lacks.pair outer o a i.slot ha i.below) ∙ subst (λ (r : List ℕ). same_row r (completing outer w target atoms a) ≡ true) (sym i.is) hit)
  ]
    where
      hit : same_row row (completing outer w target atoms a) ≡ true
      hit = gives-hit outer o w target atoms a row lent.long (long-atom lent a ha) l low gives

  -- where each atom's row is kept, reduced
  no_residual : Uncut w count atoms L → ((b : ℕ) → b < count → Kept (reduced_row w (part_at 16 atoms b))) → NoneHits w count atoms n listed target → NoResidual w count atoms target
  no_residual uncut kept lacks = record {
    of_two = λ outer o a b ha hb gives.
        let row = part_at 16 atoms b in
        let long = atom-long fit b hb in
        with_row lacks outer o a (reduced_row w row) ha (length-map row (λ (v : ℕ). v % 2 ^ w) ∙ long)
        (λ j h. subst (λ (x : ℕ). x < 2 ^ w) (sym (get_d_map (λ (v : ℕ). v % 2 ^ w) row j 0 0 (omega arith))) (mod-lt (get_or row j 0) (pow_pos w)))
        (kept b hb) (gives-reduced outer w target (part_at 16 atoms a) row long gives);
    of_gate = λ outer o g a b c ha hb hc.
        with_row lacks outer o a _ ha (gate-row-long fit g b c hb hc) (λ j h. gate_reduces g w (part_at 16 atoms b) (part_at 16 atoms c) j) (gate-kept g b c hb hc);
  }
    where
      gate-kept : (g : Gate) (b c : ℕ) → b < count → c < count → Kept (gate_row g w (part_at 16 atoms b) (part_at 16 atoms c))
      gate-kept g b c hb hc = elim (none_lost fit own uncut g b c hb hc) [ inl h ↦ h | inr e ↦ subst Kept (sym e) (kept b hb) ]

  -- rows below 2^w are what they are reduced
  below-kept : RowsBelow w count atoms → (b : ℕ) → b < count → Kept (reduced_row w (part_at 16 atoms b))
  below-kept below b hb = inl (record { slot = b; below = hb; is = sym (reduced-is w (part_at 16 atoms b) (λ j h. below b j hb (omega (arith, atom-long fit b hb)))) })

  -- and an atom of zeros gives them reduced, under Xor
  zero_kept : Uncut w count atoms L → ZeroAtom w count atoms → (b : ℕ) → b < count → Kept (reduced_row w (part_at 16 atoms b))
  zero_kept uncut z b hb =
      let lb = atom-long fit b hb in
      let lz = atom-long fit z.slot z.below in
      let e : gate_row Xor w (part_at 16 atoms b) (part_at 16 atoms z.slot) ≡ reduced_row w (part_at 16 atoms b) =
      row_nought w (part_at 16 atoms b) (part_at 16 atoms z.slot) (lb ∙ sym lz) (λ j h. z.zeros j (omega arith)) in
      subst Kept e (tried-kept fit own uncut Xor b z.slot hb z.below (λ p. absurd (false_true p)))

  -- this half holds of a cut index too
  none-hits : NoResidual w count atoms target → NoneHits w count atoms n listed target
  none-hits lacks = record {
    two = λ outer o a b ha hb. is_false _ (λ e. lacks.of_two outer o a b ha hb (given lent outer o a ha (part_at 16 atoms b) e));
    pair = λ outer o a s ha hs. is_false _ (λ e.
        let p = pair-gated fit own s hs in
        lacks.of_gate outer o p.g a p.b p.c ha p.b-below p.c-below
        (given lent outer o a ha _ (subst (λ (r : List ℕ). same_row r (completing outer w target atoms a) ≡ true) p.is e)));
  }

-- ---- the statements
pub shown_completes : ShownCompletes
shown_completes w count atoms n listed target shown long e =
    let number = residual_refusal w count atoms n listed target in
    let done = answered number (try_residuals w count atoms n listed target) (some shown) e in
    let found = found-hits w count atoms n listed target shown done.is in
    completes (none-refused w count atoms n listed target (zero_of number done.free) long) shown found.is-tried found.hit

-- given that each atom's row is kept, reduced
exactly : (w count : ℕ) (atoms : List ℕ) (L n : ℕ) (listed order target : List ℕ) (found : Option Completion) (own : OwnIndex w count atoms L n listed order)
    → Uncut w count atoms L → length target ≡ 16 → completion w count atoms n listed target ≡ answer found
    → ((lent : Lent w count atoms n listed target) (fit : Fit w count atoms L) (b : ℕ) → b < count → Kept lent own fit (reduced_row w (part_at 16 atoms b)))
    → (found ≡ none) ↔ NoResidual w count atoms target
exactly w count atoms L n listed order target found own uncut long e kept =
    let number = residual_refusal w count atoms n listed target in
    let done = answered number (try_residuals w count atoms n listed target) found e in
    let lent = none-refused w count atoms n listed target (zero_of number done.free) long in
    let fit : Fit w count atoms L = record { rows = lent.atoms-fit } in (
      λ is. no_residual lent own fit uncut (kept lent fit) (nothing-hits w count atoms n listed target (done.is ∙ is)),
      λ lacks. sym done.is ∙ hits-nothing w count atoms n listed target (none-hits lent own fit lacks),
    )

pub nothing_completes : NothingCompletes
nothing_completes w count atoms L n listed order target found below own uncut long e =
    exactly w count atoms L n listed order target found own uncut long e (λ lent fit. below-kept lent own fit below)

pub nothing_with_zero : NothingWithZero
nothing_with_zero w count atoms L n listed order target found zero own uncut long e =
    exactly w count atoms L n listed order target found own uncut long e (λ lent fit. zero_kept lent own fit uncut zero)

pub sums_and_xors : SumsAndXors
sums_and_xors w count atoms L n listed order target found bank = nothing_completes w count atoms L n listed order target found
