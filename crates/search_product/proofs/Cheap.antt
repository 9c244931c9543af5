-- 02, 2.4: what is shown is the fitting trial of least cost, the first of its cost, and is a formula. Assumes nothing.
use mathlib.Core.Path.{◌≡◌, refl, sym, ap, ◌∙◌, subst}
use mathlib.Core.Bool.{Bool, true, ◌&&◌}
use mathlib.Core.Logic.{inl}
use mathlib.Core.List.{List, ◌∷◌}
use mathlib.Core.Option.{Option, none, some}
use Prim.Native.Nat.{ℕ}
use native.Mathlib.Omega.{arith}
use lib.ListN.{length}
use Rattle.arrays.specs.Lists.{In}
use Rattle.arrays.specs.Least.{least_that, IsLeast}
use Rattle.arrays.specs.Parts.{part_at}
use Rattle.arrays.proofs.Lists.{false_true, in_right}
use Rattle.arrays.proofs.Parts.{length-part}
use Rattle.arrays.proofs.Least.{least-none, is-least, none_better, least-is}
use Rattle.limits.specs.Refusal.{answer}
use Rattle.expr.specs.Formula.{is_formula}
use Rattle.expr_cost.specs.Cost.{info_of, cost_of, under_gate, is_nonlinear}
use Rattle.search_product_forms.specs.Forms.{Forms}
use Rattle.search_product_forms.specs.Written.{Written, Paired}
use Rattle.search_product_trial.specs.Trying.{Product, fitting, trials_of, product_form, product_cost, cheaper, try_everything}
use Rattle.search_product_forms.proofs.Forming.{pair-cost}
use Rattle.search_product_trial.specs.Stages.{Lent}
use Rattle.search_product_trial.proofs.Keeping.{ranks, atoms-sized, atoms-cost, pair-sized, pair-product-cost}
use Rattle.search_product.specs.Answer.{search_refusal, product}
use Rattle.search_product.specs.Demand.{Equal}
use Rattle.search_product.specs.Cheapest.{Shown, Within, left_row, right_row, SomeFits, left_side, right_side, ShownExactly, ShownFits, NoneBetter, EarlierDearer, LeastExactly, ShownPasses, VariablesOnBothSides}
use Rattle.search_product.proofs.OwnPairs.{answered, zero_of}
use Rattle.search_product.proofs.Passing.{formulas_pass, none-refused}
use Rattle.search_product.proofs.Trials.{Tried, in_two, in_pair, tried, fits-equal, equal-fits}
use Rattle.search_product.proofs.Trials.Tried.{two, pair}

module _ (w count : ℕ) (atoms : List ℕ) (n : ℕ) (listed order target : List ℕ) (f : Forms) where
  abbrev trials : List Product
  trials = trials_of w count atoms n listed target

  abbrev test : Product → Bool
  test = fitting w atoms listed target

  -- what was found is the least
  found-is : (found : Option Product) → product w count atoms n listed order target f ≡ answer found → least_that test (cheaper f) trials ≡ found
  unfolding try_everything
  found-is found e = (answered (search_refusal w count atoms n listed order target f) (try_everything w count atoms n listed target f) found e).is

  least : (x : Product) → product w count atoms n listed order target f ≡ answer (some x) → IsLeast test (cheaper f) trials x
  least x e = is-least test (cheaper f) (ranks f) trials x (found-is (some x) e)

  stands_in : (x : Product) → IsLeast test (cheaper f) trials x → In x trials
  stands_in x l = subst (In x) (sym l.stands) (in_right x l.earlier (x ∷ l.later) (inl refl))

  -- a trial by its slots, and what its fit says
  within : (x : Product) → Tried w count atoms n listed target x → Within count n x
  within x (two _ a b q ha hb) = subst (Within count n) (sym q) (ha, hb)
  within x (pair _ a s q ha hs) = subst (Within count n) (sym q) (ha, hs)

  tries : (x : Product) → Within count n x → In x trials
  tries (Product.of_atoms a b) h = in_two w count atoms n listed target a b h.0 h.1
  tries (Product.of_pair a s) h = in_pair w count atoms n listed target a s h.0 h.1

  module _ (found : Option Product) (e : product w count atoms n listed order target f ≡ answer found) where
    -- not turned back
    free : search_refusal w count atoms n listed order target f ≡ 0
    free =
        let number = search_refusal w count atoms n listed order target f in
        zero_of number (answered number (try_everything w count atoms n listed target f) found e).free

    formulas : (Written count f) × (Paired count n f)
    formulas = formulas_pass w count atoms n listed order target f free

    passes : (x : Product) → Within count n x → is_formula 6 (product_form f x) ≡ true
    passes (Product.of_atoms a b) h = (atoms-sized formulas.0 a h.0 b h.1).formula
    passes (Product.of_pair a s) h = (pair-sized formulas.0 a h.0 formulas.1 s h.1).formula

    sides : (x : Product) → Within count n x → product_cost f x ≡ under_gate ((info_of (left_side f x)).varies && (info_of (right_side f x)).varies) (cost_of (left_side f x)) (cost_of (right_side f x))
    unfolding is_nonlinear
    sides (Product.of_atoms a b) h = atoms-cost formulas.0 a h.0 b h.1
    sides (Product.of_pair a s) h = pair-product-cost formulas.0 a h.0 formulas.1 s h.1

    -- rows are sixteen words long
    module _ (long : length target ≡ 16) where
      lent : Lent w count atoms n listed order target f
      lent = none-refused w count atoms n listed order target f free long

      fitting-equal : (x : Product) → Within count n x → test x ≡ true → Equal w target (left_row atoms x) (right_row atoms listed x)
      unfolding fitting
      fitting-equal (Product.of_atoms a b) h t =
          fits-equal w target (part_at 16 atoms a) (part_at 16 atoms b) long (length-part 16 atoms a (omega (arith, lent.atoms-fit, h.0))) (length-part 16 atoms b (omega (arith, lent.atoms-fit, h.1))) t
      fitting-equal (Product.of_pair a s) h t =
          fits-equal w target (part_at 16 atoms a) (part_at 16 listed s) long (length-part 16 atoms a (omega (arith, lent.atoms-fit, h.0))) (length-part 16 listed s (omega (arith, lent.ordered.rows_fit, h.1))) t

      equal-fitting : (x : Product) → Within count n x → Equal w target (left_row atoms x) (right_row atoms listed x) → test x ≡ true
      unfolding fitting
      equal-fitting (Product.of_atoms a b) h t =
          equal-fits w target (part_at 16 atoms a) (part_at 16 atoms b) long (length-part 16 atoms a (omega (arith, lent.atoms-fit, h.0))) (length-part 16 atoms b (omega (arith, lent.atoms-fit, h.1))) t
      equal-fitting (Product.of_pair a s) h t =
          equal-fits w target (part_at 16 atoms a) (part_at 16 listed s) long (length-part 16 atoms a (omega (arith, lent.atoms-fit, h.0))) (length-part 16 listed s (omega (arith, lent.ordered.rows_fit, h.1))) t

pub shown-fits : ShownFits
shown-fits w count atoms n listed order target f x long e =
    let l = least w count atoms n listed order target f x e in
    let h = within w count atoms n listed order target f x (tried w count atoms n listed target x (stands_in w count atoms n listed order target f x l)) in
    record { within = h; equal = fitting-equal w count atoms n listed order target f (some x) e long x h l.passes }

pub shown_exactly : ShownExactly
shown_exactly w count atoms n listed order target f found long e = (
  λ s. record { product = s.product; fits = shown-fits w count atoms n listed order target f s.product long (e ∙ ap (λ (o : Option Product). answer o) s.is) },
  λ s. go found (found-is w count atoms n listed order target f found e) s,
)
  where
    go : (o : Option Product) → least_that (fitting w atoms listed target) (cheaper f) (trials_of w count atoms n listed target) ≡ o → SomeFits w count atoms n listed target → Shown o
    go none q s =
        absurd (false_true (sym (least-none (fitting w atoms listed target) (cheaper f) (trials_of w count atoms n listed target) q s.product (tries w count atoms n listed order target f s.product s.fits.within))
        ∙ equal-fitting w count atoms n listed order target f found e long s.product s.fits.within s.fits.equal))
    go (some x) q s = record { product = x; is = refl }

pub no_fitting_better : NoneBetter
unfolding cheaper
no_fitting_better w count atoms n listed order target f x long e y t =
    none_better (fitting w atoms listed target) (cheaper f) (ranks f) (trials_of w count atoms n listed target) x y (least w count atoms n listed order target f x e)
    (tries w count atoms n listed order target f y t.within) (equal-fitting w count atoms n listed order target f (some x) e long y t.within t.equal)

pub earlier-dearer : EarlierDearer
unfolding cheaper
earlier-dearer w count atoms n listed order target f x e =
    let l = least w count atoms n listed order target f x e in
    record { earlier = l.earlier; later = l.later; stands = l.stands; fits = l.passes; dearer = l.dearer }

pub least_exactly : LeastExactly
least_exactly w count atoms n listed order target f found x e = (
  λ q. least w count atoms n listed order target f x (e ∙ ap (λ (o : Option Product). answer o) q),
  λ l.
      sym (found-is w count atoms n listed order target f found e)
      ∙ least-is (fitting w atoms listed target) (cheaper f) (ranks f) (trials_of w count atoms n listed target) x l,
)

pub shown-passes : ShownPasses
shown-passes w count atoms n listed order target f x e =
    let l = least w count atoms n listed order target f x e in
    passes w count atoms n listed order target f (some x) e x
    (within w count atoms n listed order target f x (tried w count atoms n listed target x (stands_in w count atoms n listed order target f x l)))

pub variables_on_both_sides : VariablesOnBothSides
variables_on_both_sides w count atoms n listed order target f found e = record {
  whole = sides w count atoms n listed order target f found e;
  pair = λ s h. let p = formulas w count atoms n listed order target f found e in pair-cost p.0 p.1 s h;
}
