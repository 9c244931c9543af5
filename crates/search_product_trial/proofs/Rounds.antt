-- Laws of trials, one atom's after the other's; and that an atom need not be tried with those before it. Assumes nothing.
use mathlib.Core.Path.{◌≡◌, refl, sym, ap, ◌∙◌, subst}
use mathlib.Core.Bool.{Bool, true, false, ◌&&◌}
use mathlib.Core.Logic.{inl, inr}
use mathlib.Core.List.{List, [], ◌∷◌, ◌++◌, map, flat_map, append-nil, map-append}
use mathlib.Core.Option.{Option, none}
use Prim.Native.Nat.{ℕ, ◌+◌, ◌-◌, ◌*◌, ◌≤◌, ◌<◌}
use native.Mathlib.Omega.{arith}
use lib.ListN.{length, get_or}
use Rattle.arrays.specs.Lists.{In, count_up}
use Rattle.arrays.specs.Least.{kept, keep_least, least_that}
use Rattle.arrays.proofs.Lists.{false_true, bool_cases, count_add, flat_append, in_map, in_flat, in_up, map_in, up_in}
use Rattle.arrays.proofs.Least.{least-append, least_stays, least-again}
use Rattle.row_gates.specs.declared.Gate.TheVariants.{Mul}
use Rattle.expr_cost.specs.declared.Cost.{Cost}
use Rattle.expr_cost.specs.declared.CostInfo.{CostInfo}
use Rattle.expr_cost.specs.Cost.{info_of, info_gate, under_gate, is_nonlinear, is_better}
use Rattle.expr_cost.proofs.Costs.{gate_swaps}
use Rattle.index_order.specs.Order.{first_word}
use Rattle.search_product_forms.specs.Forms.{Forms, atom_form}
use Rattle.search_product_forms.specs.Written.{Written}
use Rattle.search_product_trial.specs.declared.inner.Best.{Best}
use Rattle.search_product_trial.specs.Trying.{Product, fitting, slots_for, with_atoms, with_pairs, trials_of, try_everything, product_cost, cheaper}
use Rattle.search_product_trial.specs.Stages.{Keeps, Tried}
use Rattle.search_product_trial.specs.Steps.{fits_at, Target}
use Rattle.search_product_trial.proofs.Trials.{fits_swap}
use Rattle.search_product_trial.proofs.Keeping.{ranks, atoms-cost, tried-append}

-- ---- the trials of the atoms before a: each with the slots of l
abbrev pub rounds : (ℕ → ℕ → Product) → (ℕ → List ℕ) → ℕ → List Product
rounds g l a = flat_map (λ (k : ℕ). map (g k) (l k)) (count_up 0 a)

module _ (g : ℕ → ℕ → Product) (l : ℕ → List ℕ) where
  pub rounds-more : (a : ℕ) → rounds g l (a + 1) ≡ rounds g l a ++ map (g a) (l a)
  unfolding flat_map count_up
  rounds-more a =
      let e : 0 + a ≡ a = omega arith in
      ap (flat_map (λ (k : ℕ). map (g k) (l k))) (count_add 0 a 1 ∙ ap (λ (k : ℕ). count_up 0 a ++ count_up k 1) e)
      ∙ flat_append (λ (k : ℕ). map (g k) (l k)) (count_up 0 a) (a ∷ [])
      ∙ ap (λ (m : List Product). rounds g l a ++ m) (append-nil (map (g a) (l a)))

  pub tried-none : (f : Forms) (test : Product → Bool) (best : Best) → Tried f test (rounds g l 0) best best
  unfolding flat_map count_up keep_least
  tried-none f test best o k = k

  pub tried-turn : (f : Forms) (test : Product → Bool) (a : ℕ) (best mid r : Best) → Tried f test (rounds g l a) best mid → Tried f test (map (g a) (l a)) mid r → Tried f test (rounds g l (a + 1)) best r
  tried-turn f test a best mid r h k =
      subst (λ (m : List Product). Tried f test m best r) (sym (rounds-more a)) (tried-append f test (rounds g l a) (map (g a) (l a)) best mid r h k)

-- ---- two atoms: products commute, and cost the same
and_swaps : (a b : Bool) → (a && b) ≡ (b && a)
and_swaps true true = refl
and_swaps true false = refl
and_swaps false true = refl
and_swaps false false = refl

mul_swaps : (x y : CostInfo) → (info_gate Mul x y).cost ≡ (info_gate Mul y x).cost
unfolding is_nonlinear
mul_swaps x y = ap (λ (n : Bool). under_gate n x.cost y.cost) (and_swaps x.varies y.varies) ∙ gate_swaps (y.varies && x.varies) x.cost y.cost

abbrev pub every_atom : ℕ → ℕ → List ℕ
every_atom count k = count_up 0 count

module _ (w count : ℕ) (atoms listed target : List ℕ) (f : Forms) (ok : Target w target) (rows : 16 * count ≤ length atoms) (written : Written count f) where
  abbrev test : Product → Bool
  test = fitting w atoms listed target

  same-fit : (a b : ℕ) → a < count → b < count → test (Product.of_atoms b a) ≡ test (Product.of_atoms a b)
  unfolding fitting
  same-fit a b ha hb = elim (bool_cases (fits_at w target atoms a atoms b)) [
    | inl y ↦ fits_swap w target atoms atoms a b ok (omega arith) (omega arith) y ∙ sym y
    | inr n ↦ elim (bool_cases (fits_at w target atoms b atoms a)) [
      | inl y ↦ absurd (false_true (sym n ∙ fits_swap w target atoms atoms b a ok (omega arith) (omega arith) y))
      | inr m ↦ m ∙ sym n
    ]
  ]

  same_rank : (a b : ℕ) → a < count → b < count → (x : Product) → cheaper f (Product.of_atoms a b) x ≡ cheaper f (Product.of_atoms b a) x
  unfolding cheaper
  same_rank a b ha hb x =
      ap (λ (c : Cost). is_better c (product_cost f x))
      (atoms-cost written a ha b hb ∙ mul_swaps (info_of (atom_form f a)) (info_of (atom_form f b)) ∙ sym (atoms-cost written b hb a ha))

  abbrev before : ℕ → List Product
  before a = rounds Product.of_atoms (every_atom count) a

  -- an earlier atom was tried with a in its own turn
  pub half : (a : ℕ) → a < count
      → keep_least test (cheaper f) (least_that test (cheaper f) (before a)) (map (Product.of_atoms a) (count_up 0 count))
      ≡ keep_least test (cheaper f) (least_that test (cheaper f) (before a)) (map (Product.of_atoms a) (count_up a (count - a)))
  half a ha =
      let kept-so-far = least_that test (cheaper f) (before a) in
      let e : count ≡ a + (count - a) = omega arith in
      let z : 0 + a ≡ a = omega arith in
      ap (λ (m : List ℕ). keep_least test (cheaper f) kept-so-far (map (Product.of_atoms a) m)) (ap (count_up 0) e ∙ count_add 0 a (count - a) ∙ ap (λ (k : ℕ). count_up 0 a ++ count_up k (count - a)) z)
      ∙ ap (keep_least test (cheaper f) kept-so-far) (map-append (Product.of_atoms a) (count_up 0 a) (count_up a (count - a)))
      ∙ least-append test (cheaper f) kept-so-far (map (Product.of_atoms a) (count_up 0 a)) (map (Product.of_atoms a) (count_up a (count - a)))
      ∙ ap (λ (o : Option Product). keep_least test (cheaper f) o (map (Product.of_atoms a) (count_up a (count - a))))
      (least_stays test (cheaper f) kept-so-far (map (Product.of_atoms a) (count_up 0 a)) (λ x i.
      let p = map_in (Product.of_atoms a) x (count_up 0 a) i in
      let b = p.of in
      let l : b < a = in_up a b p.at in
      subst (λ (y : Product). kept_stays kept-so-far y) (sym p.is)
      (least-again test (cheaper f) (ranks f) (before a) (Product.of_atoms a b) (Product.of_atoms b a) (earlier a b ha l) (same-fit a b ha (omega arith)) (same_rank a b ha (omega arith)))))
    where
      kept_stays : Option Product → Product → Type 0
      kept_stays o x = kept test (cheaper f) o x ≡ o

      earlier : (a b : ℕ) → a < count → b < a → In (Product.of_atoms b a) (before a)
      earlier a b ha l =
          in_flat (λ (k : ℕ). map (Product.of_atoms k) (every_atom count k)) b (Product.of_atoms b a) (count_up 0 a) (up_in a b l) (in_map (Product.of_atoms b) a (count_up 0 count) (up_in count a ha))

  -- one atom more, tried with those from it on
  pub atoms-turn : (a : ℕ) (best r : Best) → a < count → Keeps f (least_that test (cheaper f) (before a)) best
      → Tried f test (map (Product.of_atoms a) (count_up a (count - a))) best r → Keeps f (least_that test (cheaper f) (before (a + 1))) r
  unfolding least_that
  atoms-turn a best r ha k t =
      subst (λ (o : Option Product). Keeps f o r)
      (sym (ap (least_that test (cheaper f)) (rounds-more Product.of_atoms (every_atom count) a)
      ∙ least-append test (cheaper f) none (before a) (map (Product.of_atoms a) (count_up 0 count))
      ∙ half a ha))
      (t (least_that test (cheaper f) (before a)) k)

pub atoms-start : (f : Forms) (test : Product → Bool) (count : ℕ) (best : Best) → Keeps f none best → Keeps f (least_that test (cheaper f) (rounds Product.of_atoms (every_atom count) 0)) best
unfolding least_that keep_least flat_map count_up
atoms-start f test count best k = k

pub atoms-all : (count : ℕ) → rounds Product.of_atoms (every_atom count) count ≡ with_atoms count
unfolding with_atoms
atoms-all count = refl

-- ---- the second stage, and both
module _ (w count : ℕ) (atoms : List ℕ) (n : ℕ) (listed target : List ℕ) where
  abbrev pub pair_slots : ℕ → List ℕ
  pair_slots a = slots_for w (first_word atoms a) (get_or target 0 0) n listed

  pub pairs-all : rounds Product.of_pair pair_slots count ≡ with_pairs w count atoms n listed target
  unfolding with_pairs
  pairs-all = refl

  -- the second stage goes on from what the first kept
  pub both : (f : Forms) (best r : Best) → Keeps f (least_that (fitting w atoms listed target) (cheaper f) (with_atoms count)) best
      → Tried f (fitting w atoms listed target) (with_pairs w count atoms n listed target) best r → Keeps f (try_everything w count atoms n listed target f) r
  unfolding try_everything trials_of least_that
  both f best r k t =
      let test = fitting w atoms listed target in
      subst (λ (o : Option Product). Keeps f o r) (sym (least-append test (cheaper f) none (with_atoms count) (with_pairs w count atoms n listed target)))
      (t (least_that test (cheaper f) (with_atoms count)) k)
