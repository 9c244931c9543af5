-- Laws of the slots that are tried with one atom: those that fit solve the equation of the first words, so others may be skipped. Assumes nothing.
use mathlib.Core.Path.{◌≡◌, sym, ap, ap₂, ◌∙◌, subst}
use mathlib.Core.Bool.{Bool, true, false}
use mathlib.Core.List.{List, map}
use Prim.Native.Nat.{ℕ, ◌-◌, ◌%◌, ◌^◌, ◌≤◌, ◌<◌}
use native.Mathlib.Nat.{mod-lt, mod-eq_of_lt}
use native.Mathlib.Omega.{arith}
use lib.ListN.{length, get_or, take}
use lib.Pow.{pow_pos}
use Rattle.arrays.specs.Lists.{count_up}
use Rattle.arith.specs.Word.{modulus}
use Rattle.arrays.proofs.Lists.{is_false}
use Rattle.arrays.proofs.Least.{take_places}
use Rattle.limits.proofs.Refusals.{true_not_false}
use Rattle.arith.proofs.Remainders.{modulus-is}
use Rattle.index_order.specs.Order.{first_word, order_of}
use Rattle.index_order.proofs.OrderLaws.{order_exactly}
use Rattle.search_equation.specs.Equation.{used, solves}
use Rattle.search_equation.specs.Solved.{Asked, IsClass, IsNone}
use Rattle.search_filter.specs.Places.{Ordered}
use Rattle.search_product_forms.specs.Forms.{Forms}
use Rattle.search_product_trial.specs.declared.inner.Best.{Best}
use Rattle.search_product_trial.specs.Trying.{Product, slots_for}
use Rattle.search_product_trial.specs.Stages.{Tried}
use Rattle.search_product_trial.specs.Steps.{fits_at, Target}
use Rattle.search_product_trial.proofs.Trials.{fits-solves}
use Rattle.search_product_trial.proofs.Firsts.{first-place-is}
use Rattle.search_product_trial.proofs.Keeping.{TriedTo}
use Rattle.search_product_pairs.specs.Steps.{Narrows}

-- ---- p is the first word of atom a, reduced
module _ (w : ℕ) (target atoms listed : List ℕ) (a : ℕ) (ok : Target w target) (p : ℕ) (is : p ≡ first_word atoms a % modulus w) where
  p_is : p ≡ first_word atoms a % 2 ^ w
  p_is = is ∙ ap (λ (m : ℕ). first_word atoms a % m) (modulus-is w ok.width)

  t-is : get_or target 0 0 % 2 ^ w ≡ get_or target 0 0
  t-is = mod-eq_of_lt (ok.reduced 0 (omega arith))

  used-is : used (first_word atoms a % 2 ^ w) (get_or target 0 0 % 2 ^ w) ≡ used p (get_or target 0 0)
  used-is = ap₂ used (sym p_is) t-is

  -- the slots in their order
  pub slots-used : (n : ℕ) → used p (get_or target 0 0) ≡ true → slots_for w (first_word atoms a) (get_or target 0 0) n listed ≡ order_of n listed
  unfolding slots_for
  slots-used n u = rw (used-is ∙ u, slots_for)

  pub slots_unused : (n : ℕ) → used p (get_or target 0 0) ≡ false → slots_for w (first_word atoms a) (get_or target 0 0) n listed ≡ count_up 0 n
  unfolding slots_for
  slots_unused n u = rw (used-is ∙ u, slots_for)

  pub asked : used p (get_or target 0 0) ≡ true → Asked w p (get_or target 0 0)
  asked u = record {
    width = ok.width;
    p_below = subst (λ (x : ℕ). x < 2 ^ w) (sym p_is) (mod-lt (first_word atoms a) (pow_pos w));
    t-below = ok.reduced 0 (omega arith);
    is-used = u;
  }

  -- what fits solves
  fit-solves : (s : ℕ) → fits_at w target atoms a listed s ≡ true → solves w p (get_or target 0 0) (first_word listed s) ≡ true
  fit-solves s e =
      subst (λ (i : ℕ). solves w p (get_or target 0 0) (get_or listed i 0) ≡ true) (first-place-is s)
      (fits-solves w target atoms listed a s ok e 0 p (omega arith) (is ∙ ap (λ (i : ℕ). get_or atoms i 0 % modulus w) (sym (first-place-is a))))

  pub none-fits : IsNone w p (get_or target 0 0) → (s : ℕ) → fits_at w target atoms a listed s ≡ false
  none-fits no' s = is_false (fits_at w target atoms a listed s) (λ e. true_not_false (sym (fit-solves s e) ∙ no'.is (first_word listed s)))

  pub narrows : (zeros first : ℕ) → IsClass w p (get_or target 0 0) zeros first → Narrows w target atoms a listed record { w = w; zeros = zeros; first = first }
  narrows zeros first class = record { is = λ s e. sym (class.is (first_word listed s)) ∙ fit-solves s e }

-- the lent list is the order list
pub listed-is : (n : ℕ) (rows order : List ℕ) → Ordered n rows order → take n order ≡ order_of n rows
listed-is n rows order o = (order_exactly n rows (take n order)).only_it o.is

-- ---- the order list place after place
-- the product of atom a with the pair at a place
abbrev pub at_place : ℕ → List ℕ → ℕ → Product
at_place a order k = Product.of_pair a (get_or order k 0)

module _ (f : Forms) (test : Product → Bool) (a : ℕ) (best r : Best) where
  pub places_all : (n : ℕ) (order : List ℕ) → n ≤ length order → (j : ℕ) → j ≡ n → TriedTo f test (at_place a order) 0 j best r → Tried f test (map (Product.of_pair a) (take n order)) best r
  places_all n order fit j e t =
      let m : j - 0 ≡ n = omega arith in
      subst (λ (l : List Product). Tried f test l best r)
      (ap (λ (k : ℕ). map (at_place a order) (count_up 0 k)) m ∙ sym (take_places (Product.of_pair a) order n fit)) t
