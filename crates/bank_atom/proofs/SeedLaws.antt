-- Laws of taking seeds, and of OR over a row from its end. Assumes nothing.
use mathlib.Core.Path.{◌≡◌, refl, sym, ap, ◌∙◌}
use mathlib.Core.List.{List, [], ◌∷◌, ◌++◌, append_assoc, append-nil}
use Prim.Native.Nat.{ℕ, zero, suc, ◌+◌, ◌-◌, ◌≤◌, ◌<◌}
use native.Mathlib.Numerals.{add-one}
use native.Mathlib.Omega.{arith}
use lib.Bits.{bit_or}
use lib.ListN.{length, get_or, take, drop, set, drop_of_length-le}
use lib.Seq.{take-suc-set, drop-cons}
use Rattle.bank_spec.specs.Bank.{or_all, first_nonzero, seeds_of}
use Rattle.bank_atom.specs.declared.Seeds.{Seeds}
use Rattle.bank_atom.specs.Seeding.{seeded, AreSeeds, WithSeed}

-- ---- the OR
-- past the last word nothing is joined
pub or_none : (l : List ℕ) (k : ℕ) → length l ≤ k → 0 ≡ or_all (drop k l)
unfolding or_all
or_none l k h = sym (ap or_all (drop_of_length-le l h))

-- one word more, from the end
pub or_more : (l : List ℕ) (k all : ℕ) → k < length l → all ≡ or_all (drop (suc k) l) → bit_or (get_or l k 0) all ≡ or_all (drop k l)
unfolding or_all
or_more l k all h e = ap (bit_or (get_or l k 0)) e ∙ sym (ap or_all (drop-cons l k 0 h))

-- ---- one word
-- a zero is passed over
pass_zero : (n : ℕ) (more : List ℕ) → first_nonzero n more ≡ first_nonzero n (0 ∷ more)
unfolding first_nonzero
pass_zero zero more = refl
pass_zero (suc n) more = refl

-- another word is taken where one may be
take-word : (n v : ℕ) (more : List ℕ) → (v ≡ 0 → ⊥) → first_nonzero (suc n) (v ∷ more) ≡ v ∷ first_nonzero n more
unfolding first_nonzero
take-word n zero more h = absurd (h refl)
take-word n (suc v) more h = refl

-- no words, no seeds
nothing_left : (n : ℕ) → first_nonzero n [] ≡ []
unfolding first_nonzero
nothing_left zero = refl
nothing_left (suc n) = refl

-- where none may be taken, the words do not matter
full : (n : ℕ) (xs ys : List ℕ) → n ≡ 0 → first_nonzero n xs ≡ first_nonzero n ys
unfolding first_nonzero
full zero xs ys e = refl
full (suc n) xs ys e = absurd (omega arith)

-- the three ends of `with_seed`: a zero, enough taken, one taken
pub seed_zero : (s : Seeds) (v most : ℕ) → s.count ≤ most → v ≡ 0 → WithSeed s v most s
seed_zero s v most h e = record {
  few = h;
  same = λ more. ap (λ (z : List ℕ). seeded s ++ z) (pass_zero (most - s.count) more ∙ ap (λ (x : ℕ). first_nonzero (most - s.count) (x ∷ more)) (sym e));
}

pub seed_full : (s : Seeds) (v most : ℕ) → s.count ≤ most → most ≤ s.count → WithSeed s v most s
seed_full s v most h l = record {
  few = h;
  same = λ more. ap (λ (z : List ℕ). seeded s ++ z) (full (most - s.count) more (v ∷ more) (omega arith));
}

pub seed_taken : (s r : Seeds) (v most : ℕ) → s.count < most → s.count < length s.words → (v ≡ 0 → ⊥) → r.count ≡ s.count + 1 → r.words ≡ set s.words s.count v
    → WithSeed s v most r
seed_taken s r v most h l nz ec ew = record {
  few = omega (arith, ec);
  same = λ more.
      ap (λ (z : List ℕ). z ++ first_nonzero (most - r.count) more) taken
      ∙ append_assoc (seeded s) (v ∷ []) (first_nonzero (most - r.count) more)
      ∙ ap (λ (z : List ℕ). seeded s ++ z) (sym (take-word (most - r.count) v more nz) ∙ ap (λ (n : ℕ). first_nonzero n (v ∷ more)) left);
}
  where
    left : suc (most - r.count) ≡ most - s.count
    left = omega (arith, ec)

    taken : seeded r ≡ seeded s ++ (v ∷ [])
    taken = (λ i. take ((ec ∙ add-one s.count) i) (ew i)) ∙ take-suc-set s.words s.count v l

-- ---- the words passed: what is left to take from here gives the seeds
pub record Seeding (target : List ℕ) (s : Seeds) (most i : ℕ) : Type 0 where
  pub few : s.count ≤ most
  pub limit : most ≤ 8
  pub rest : seeded s ++ first_nonzero (most - s.count) (drop i target) ≡ seeds_of target

-- the OR is looked at alone, as a list of one word of which one may be taken
pub seeding_first : (target : List ℕ) (none s : Seeds) (all most : ℕ) → none.count ≡ 0 → all ≡ or_all target → WithSeed none all 1 s → most ≡ s.count + 7 → Seeding target s most 0
unfolding seeds_of
seeding_first target none s all most en ea w em = record {
  few = omega arith;
  limit = omega (arith, w.few);
  rest =
      let seven : most - s.count ≡ 7 = omega arith in
      ap (λ (n : ℕ). seeded s ++ first_nonzero n target) seven
      ∙ ap (λ (z : List ℕ). z ++ first_nonzero 7 target) (sym (tail s) ∙ w.same [] ∙ first);
}
  where
    tail : (s : Seeds) → seeded s ++ first_nonzero (1 - s.count) [] ≡ seeded s
    tail s = ap (λ (z : List ℕ). seeded s ++ z) (nothing_left (1 - s.count)) ∙ append-nil (seeded s)

    first : seeded none ++ first_nonzero (1 - none.count) (all ∷ []) ≡ first_nonzero 1 (or_all target ∷ [])
    first = (λ i. take (en i) none.words ++ first_nonzero (1 - en i) (ea i ∷ []))

-- one word of the target more
pub seeding_more : (target : List ℕ) (s r : Seeds) (most i : ℕ) → i < length target → Seeding target s most i → WithSeed s (get_or target i 0) most r → Seeding target r most (i + 1)
seeding_more target s r most i h p w = record {
  few = w.few;
  limit = p.limit;
  rest =
      ap (λ (k : ℕ). seeded r ++ first_nonzero (most - r.count) (drop k target)) (add-one i)
      ∙ w.same (drop (suc i) target)
      ∙ ap (λ (z : List ℕ). seeded s ++ first_nonzero (most - s.count) z) (sym (drop-cons target i 0 h))
      ∙ p.rest;
}

-- all sixteen are passed
pub seeding_done : (target : List ℕ) (s : Seeds) (most i : ℕ) → length target ≤ i → Seeding target s most i → AreSeeds target s
seeding_done target s most i h p = record {
  few = omega (arith, p.few, p.limit);
  are = sym (ap (λ (z : List ℕ). seeded s ++ z) (ap (first_nonzero (most - s.count)) (drop_of_length-le target h) ∙ nothing_left (most - s.count)) ∙ append-nil (seeded s)) ∙ p.rest;
}
