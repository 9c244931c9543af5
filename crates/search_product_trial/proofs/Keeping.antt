-- Laws of what is kept: a trial that is offered, trials that can't be cheaper, and trials place after place. Assumes nothing.
use mathlib.Core.Path.{◌≡◌, refl, sym, ap, ap₂, ◌∙◌, subst}
use mathlib.Core.Bool.{Bool, true, false, cond}
use mathlib.Core.Logic.{inl, inr}
use mathlib.Core.List.{List, ◌++◌, map}
use mathlib.Core.Option.{Option, none, some}
use Prim.Native.Nat.{ℕ, ◌+◌, ◌-◌, ◌≤◌, ◌<◌}
use native.Mathlib.Omega.{arith}
use lib.ListN.{length, get_or}
use Rattle.arrays.specs.Lists.{In, count_up}
use Rattle.arrays.specs.Least.{kept, keep_least, Ranks}
use Rattle.arrays.proofs.Lists.{false_true, bool_cases, map_in}
use Rattle.arrays.proofs.Least.{kept-first, kept_better, kept-dearer, least-append, least_fails, least_stays, kept_to, to_none, to_skip, to_one}
use Rattle.row_gates.specs.declared.Gate.TheVariants.{Mul}
use Rattle.expr.specs.Formula.{is_formula}
use Rattle.expr_cost.specs.declared.Cost.{Cost}
use Rattle.expr_cost.specs.declared.CostInfo.{CostInfo}
use Rattle.expr_cost.specs.Cost.{info_of, info_gate, is_better, Roomy}
use Rattle.expr_cost.proofs.Costs.{better_irrefl, better_trans, not_better_trans, size_better, size-not_better}
use Rattle.expr_cost.proofs.Formulas.{cost_roomy, tokens_le_size}
use Rattle.search_product_forms.specs.Forms.{Forms, atom_form, pair_form}
use Rattle.search_product_forms.specs.Written.{Written, Paired}
use Rattle.search_product_forms.proofs.Forming.{form-length, gated-passes, gated_info, gated-length, atom-short, atom-some, pair-formula, pair-short, pair-some}
use Rattle.search_product_trial.specs.declared.inner.Found.{Found}
use Rattle.search_product_trial.specs.declared.inner.Best.{Best}
use Rattle.search_product_trial.specs.Trying.{Product, fitting, product_form, product_cost, cheaper}
use Rattle.search_product_trial.specs.Stages.{product_of, found_says, none_cost, best_of, Keeps, Offered, Tried}
use Rattle.search_product_trial.specs.Steps.{fits_at}

-- ---- the cost order ranks the trials
pub ranks : (f : Forms) → Ranks (cheaper f)
unfolding cheaper
ranks f = record {
  irrefl = λ x. better_irrefl (product_cost f x);
  trans = λ x y z. better_trans (product_cost f x) (product_cost f y) (product_cost f z);
  not-trans = λ x y z. not_better_trans (product_cost f x) (product_cost f y) (product_cost f z);
}

-- ---- a product of formulas that no refusal turns back is a formula
-- its tokens, its cost
pub record Sized (f : Forms) (x : Product) (tokens : ℕ) : Type 0 where
  pub formula : is_formula 6 (product_form f x) ≡ true
  pub long : length (product_form f x) ≡ tokens

module _ (f : Forms) (x : Product) (tokens : ℕ) (s : Sized f x tokens) where
  pub sized_roomy : Roomy (product_cost f x)
  unfolding product_cost
  sized_roomy = cost_roomy 6 (product_form f x) s.formula

  pub sized-size : tokens ≤ (product_cost f x).size
  unfolding product_cost
  sized-size = omega (arith, s.long, tokens_le_size 6 (product_form f x) s.formula)

module _ {count : ℕ} {f : Forms} (w : Written count f) (a : ℕ) (ha : a < count) where
  pub atoms-sized : (b : ℕ) → b < count → Sized f (Product.of_atoms a b) (get_or f.lengths a 0 + get_or f.lengths b 0 + 1)
  unfolding product_form
  atoms-sized b hb = record {
    formula = gated-passes (atom_form f a) (atom_form f b) Mul (w.formula a ha) (w.formula b hb) (omega (arith, atom-short w a ha, atom-short w b hb));
    long = omega (arith, gated-length (atom_form f a) (atom_form f b) Mul, form-length f a, form-length f b);
  }

  pub atoms-cost : (b : ℕ) → b < count → product_cost f (Product.of_atoms a b) ≡ (info_gate Mul (info_of (atom_form f a)) (info_of (atom_form f b))).cost
  unfolding product_cost product_form
  atoms-cost b hb = ap (λ (i : CostInfo). i.cost) (gated_info (atom_form f a) (atom_form f b) Mul (w.formula a ha) (w.formula b hb))

  module _ {n : ℕ} (p : Paired count n f) (s : ℕ) (hs : s < n) where
    pub pair-sized : Sized f (Product.of_pair a s) (get_or f.lengths a 0 + length (pair_form f s) + 1)
    unfolding product_form
    pair-sized = record {
      formula = gated-passes (atom_form f a) (pair_form f s) Mul (w.formula a ha) (pair-formula w p s hs) (omega (arith, atom-short w a ha, pair-short w p s hs));
      long = omega (arith, gated-length (atom_form f a) (pair_form f s) Mul, form-length f a);
    }

    pub pair-product-cost : product_cost f (Product.of_pair a s) ≡ (info_gate Mul (info_of (atom_form f a)) (info_of (pair_form f s))).cost
    unfolding product_cost product_form
    pair-product-cost = ap (λ (i : CostInfo). i.cost) (gated_info (atom_form f a) (pair_form f s) Mul (w.formula a ha) (pair-formula w p s hs))

-- ---- one trial
module _ (f : Forms) (x : Product) where
  -- one that is too dear changes nothing
  pub dear_stays : (test : Product → Bool) (o : Option Product) (best : Best) → Keeps f o best → Roomy (product_cost f x) → best.cost.size < (product_cost f x).size → kept test (cheaper f) o x ≡ o
  unfolding cheaper
  dear_stays test none best k roomy h = absurd (omega (arith, ap (λ (c : Cost). c.size) k.cost, roomy.size))
  dear_stays test (some y) best k roomy h =
      kept-dearer test (cheaper f) y x (size-not_better (product_cost f x) (product_cost f y) (omega (arith, ap (λ (c : Cost). c.size) k.cost)))

  -- one of more tokens than the best has size
  pub offered_dear : (tokens : ℕ) (best : Best) → Sized f x tokens → best.cost.size < tokens → Offered f x best best
  offered_dear tokens best s h test o t k =
      subst (λ (q : Option Product). Keeps f q best)
      (sym (dear_stays test o best k (sized_roomy f x tokens s) (omega (arith, sized-size f x tokens s)))) k

  -- one whose cost is compared
  pub offered_or : (found : Found) (cost : Cost) (best r : Best) → product_of found ≡ x → cost ≡ product_cost f x → Roomy (product_cost f x)
      → r ≡ cond (is_better cost best.cost) (best_of found cost) best → Offered f x best r
  unfolding cheaper
  offered_or found cost best r says is roomy e test o t k = elim (bool_cases (is_better cost best.cost)) [
    | inl y ↦ taken o k (e ∙ ap (λ (b : Bool). cond b (best_of found cost) best) y) y
    | inr n ↦ left o k (e ∙ ap (λ (b : Bool). cond b (best_of found cost) best) n) n
  ]
    where
      than : (y : Product) → Keeps f (some y) best → is_better cost best.cost ≡ is_better (product_cost f x) (product_cost f y)
      than y k = ap₂ is_better is k.cost

      holds : r ≡ best_of found cost → Keeps f (some x) r
      holds q = record { says = ap (λ (b : Best). found_says b.found) q ∙ ap (λ (p : Product). some p) says; cost = ap (λ (b : Best). b.cost) q ∙ is }

      taken : (o : Option Product) → Keeps f o best → r ≡ best_of found cost → is_better cost best.cost ≡ true → Keeps f (kept test (cheaper f) o x) r
      taken none k q y = subst (λ (p : Option Product). Keeps f p r) (sym (kept-first test (cheaper f) x t)) (holds q)
      taken (some v) k q y = subst (λ (p : Option Product). Keeps f p r) (sym (kept_better test (cheaper f) v x t (sym (than v k) ∙ y))) (holds q)

      left : (o : Option Product) → Keeps f o best → r ≡ best → is_better cost best.cost ≡ false → Keeps f (kept test (cheaper f) o x) r
      left none k q n =
          absurd (false_true (sym n ∙ ap₂ is_better is k.cost ∙ size_better (product_cost f x) none_cost (omega (arith, roomy.size))))
      left (some v) k q n =
          subst (λ (p : Option Product). Keeps f p r) (sym (kept-dearer test (cheaper f) v x (sym (than v k) ∙ n)))
          (subst (Keeps f (some v)) (sym q) k)

-- ---- trials one after the other
module _ (f : Forms) (test : Product → Bool) where
  pub tried-append : (xs ys : List Product) (best mid r : Best) → Tried f test xs best mid → Tried f test ys mid r → Tried f test (xs ++ ys) best r
  tried-append xs ys best mid r h k o q =
      subst (λ (p : Option Product). Keeps f p r) (sym (least-append test (cheaper f) o xs ys)) (k (keep_least test (cheaper f) o xs) (h o q))

  -- trials that are too dear
  pub tried_dear : (l : List Product) (best : Best) → ((x : Product) → In x l → Roomy (product_cost f x) × (best.cost.size < (product_cost f x).size)) → Tried f test l best best
  tried_dear l best each o k =
      subst (λ (p : Option Product). Keeps f p best)
      (sym (least_stays test (cheaper f) o l (λ x i. dear_stays f x test o best k (each x i).0 (each x i).1))) k

  -- trials of which none fits
  pub none_kept : (g : ℕ → Product) (l : List ℕ) (best : Best) → ((s : ℕ) → test (g s) ≡ false) → Tried f test (map g l) best best
  none_kept g l best fails o k =
      subst (λ (p : Option Product). Keeps f p best)
      (sym (least_fails test (cheaper f) o (map g l) (λ x i. let p = map_in g x l i in ap test p.is ∙ fails p.of))) k

  -- place after place: what g makes of places i up to j
  module _ (g : ℕ → Product) (i : ℕ) where
    abbrev pub TriedTo : ℕ → Best → Best → Type 0
    TriedTo j best r = Tried f test (map g (count_up i (j - i))) best r

    pub to_start : (best : Best) → TriedTo i best best
    to_start best o k = subst (λ (p : Option Product). Keeps f p best) (sym (to_none test (cheaper f) o g i)) k

    -- places that don't fit
    pub to_pass : (j r : ℕ) (best now : Best) → i ≤ j → j ≤ r → ((k : ℕ) → j ≤ k → k < r → test (g k) ≡ false) → TriedTo j best now → TriedTo r best now
    to_pass j r best now l h fails t o k =
        subst (λ (p : Option Product). Keeps f p now) (sym (to_skip test (cheaper f) o g i j r l h fails)) (t o k)

    -- one that fits
    pub to_offer : (j : ℕ) (best now next : Best) → i ≤ j → test (g j) ≡ true → Offered f (g j) now next → TriedTo j best now → TriedTo (j + 1) best next
    to_offer j best now next l e offered t o k =
        subst (λ (p : Option Product). Keeps f p next) (sym (to_one test (cheaper f) o g i j l)) (offered test (kept_to test (cheaper f) o g i j) e (t o k))

-- ---- an atom that is passed over
module _ {count : ℕ} {f : Forms} (w : Written count f) (test : Product → Bool) (a : ℕ) (ha : a < count) (best : Best) where
  -- another atom has a token at least, and Mul is one
  pub atom_dear : best.cost.size < get_or f.lengths a 0 + 2 → (l : List ℕ) → ((b : ℕ) → In b l → b < count) → Tried f test (map (Product.of_atoms a) l) best best
  atom_dear h l below = tried_dear f test (map (Product.of_atoms a) l) best (λ x i.
      let p = map_in (Product.of_atoms a) x l i in
      let hb = below p.of p.at in
      let s = atoms-sized w a ha p.of hb in
      subst (λ (y : Product). Roomy (product_cost f y) × (best.cost.size < (product_cost f y).size)) (sym p.is)
      (sized_roomy f _ _ s, omega (arith, h, sized-size f _ _ s, atom-some w p.of hb, form-length f p.of)))

  -- a pair has three at least
  pub pairs_dear : {n : ℕ} → Paired count n f → best.cost.size < get_or f.lengths a 0 + 4 → (l : List ℕ) → ((s : ℕ) → In s l → s < n) → Tried f test (map (Product.of_pair a) l) best best
  pairs_dear paired h l below = tried_dear f test (map (Product.of_pair a) l) best (λ x i.
      let p = map_in (Product.of_pair a) x l i in
      let hs = below p.of p.at in
      let s = pair-sized w a ha paired p.of hs in
      subst (λ (y : Product). Roomy (product_cost f y) × (best.cost.size < (product_cost f y).size)) (sym p.is)
      (sized_roomy f _ _ s, omega (arith, h, sized-size f _ _ s, pair-some w paired p.of hs)))

-- ---- what fits, by rows
pub atoms-same : (w : ℕ) (atoms listed target : List ℕ) (a b : ℕ) → fitting w atoms listed target (Product.of_atoms a b) ≡ fits_at w target atoms a atoms b
unfolding fitting
atoms-same w atoms listed target a b = refl

pub pairs-same : (w : ℕ) (atoms listed target : List ℕ) (a s : ℕ) → fitting w atoms listed target (Product.of_pair a s) ≡ fits_at w target atoms a listed s
unfolding fitting
pairs-same w atoms listed target a s = refl
