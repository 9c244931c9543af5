-- Laws of trying everything: what fits, which trials there are, and when none fits. Assumes nothing.
use mathlib.Core.Path.{◌≡◌, sym, ap, ◌∙◌}
use mathlib.Core.Bool.{true, false}
use mathlib.Core.Logic.{inl, inr}
use mathlib.Core.List.{List, map}
use mathlib.Core.Option.{none}
use Prim.Native.Nat.{ℕ, ◌*◌, ◌%◌, ◌^◌, ◌<◌}
use native.Mathlib.Omega.{arith}
use lib.ListN.{length, get_or, length-map}
use lib.Seq.{ext_get_or}
use Rattle.arrays.specs.Lists.{count_up, In}
use Rattle.arrays.specs.Parts.{part_at}
use Rattle.arrays.proofs.Lists.{in_left, in_right, in_split, in_map, map_in, in_flat, flat_in, up_in, in_up, get_d_map}
use Rattle.arrays.proofs.Least.{least-none, none-least}
use Rattle.row_gates.specs.Gates.{gate_of, gate_row}
use Rattle.row_gates.specs.declared.Gate.TheVariants.{Mul}
use Rattle.row_gates.proofs.Rows.{length-gate_row, get_or-gate_row, same-row_eq, same-row_of}
use Rattle.index_order.specs.Order.{first_word}
use Rattle.search_product_forms.specs.Forms.{Forms}
use Rattle.search_product_trial.specs.Trying.{Product, fits, fitting, slots_for, with_atoms, with_pairs, trials_of, cheaper, try_everything}
use Rattle.search_product_trial.proofs.Slots.{in_slots, slots_in}
use Rattle.search_product.specs.Demand.{Equal}

-- ---- a trial fits exactly if the products are equal to the target in all sixteen places
module _ (w : ℕ) (target a b : List ℕ) (long : length target ≡ 16) (long-a : length a ≡ 16) (long-b : length b ≡ 16) where
  abbrev reduced : ℕ → ℕ
  reduced t = t % 2 ^ w

  product_at : (j : ℕ) → j < 16 → get_or (gate_row Mul w a b) j 0 ≡ get_or a j 0 * get_or b j 0 % 2 ^ w
  unfolding gate_of
  product_at j h = get_or-gate_row Mul w a b j (omega arith) (omega arith)

  target_at : (j : ℕ) → j < 16 → get_or (map reduced target) j 0 ≡ get_or target j 0 % 2 ^ w
  target_at j h = get_d_map reduced target j 0 0 (omega arith)

  pub fits-equal : fits w target a b ≡ true → Equal w target a b
  unfolding fits
  fits-equal e j h =
      sym (product_at j h) ∙ ap (λ (l : List ℕ). get_or l j 0) (same-row_eq (gate_row Mul w a b) (map reduced target) e) ∙ target_at j h

  pub equal-fits : Equal w target a b → fits w target a b ≡ true
  unfolding fits
  equal-fits e =
      let la = length-gate_row Mul w a b (omega arith) in
      let lt = length-map target reduced in
      same-row_of (ext_get_or 0 (gate_row Mul w a b) (map reduced target) (omega arith)
      (λ j h. product_at j (omega arith) ∙ e j (omega arith) ∙ sym (target_at j (omega arith))))

-- ---- the trials: every two atoms, and every atom with every pair
module _ (w count : ℕ) (atoms : List ℕ) (n : ℕ) (listed target : List ℕ) where
  -- a trial by its slots
  pub data Tried : Product → Type 0 where
    two : (x : Product) (a b : ℕ) → x ≡ Product.of_atoms a b → a < count → b < count → Tried x
    pair : (x : Product) (a s : ℕ) → x ≡ Product.of_pair a s → a < count → s < n → Tried x

  abbrev all : List Product
  all = trials_of w count atoms n listed target

  abbrev slots : ℕ → List ℕ
  slots a = slots_for w (first_word atoms a) (get_or target 0 0) n listed

  pub in_two : (a b : ℕ) → a < count → b < count → In (Product.of_atoms a b) all
  unfolding trials_of with_atoms
  in_two a b ha hb =
      in_left _ (with_atoms count) (with_pairs w count atoms n listed target)
      (in_flat (λ (k : ℕ). map (Product.of_atoms k) (count_up 0 count)) a _ (count_up 0 count) (up_in count a ha) (in_map (Product.of_atoms a) b (count_up 0 count) (up_in count b hb)))

  pub in_pair : (a s : ℕ) → a < count → s < n → In (Product.of_pair a s) all
  unfolding trials_of with_pairs
  in_pair a s ha hs =
      in_right _ (with_atoms count) (with_pairs w count atoms n listed target)
      (in_flat (λ (k : ℕ). map (Product.of_pair k) (slots k)) a _ (count_up 0 count) (up_in count a ha) (in_map (Product.of_pair a) s (slots a) (in_slots w (first_word atoms a) (get_or target 0 0) n listed s hs)))

  pub tried : (x : Product) → In x all → Tried x
  unfolding trials_of with_atoms with_pairs
  tried x h = elim (in_split x (with_atoms count) (with_pairs w count atoms n listed target) h) [
    | inl i ↦
        let s = flat_in (λ (k : ℕ). map (Product.of_atoms k) (count_up 0 count)) x (count_up 0 count) i in
        let p = map_in (Product.of_atoms s.of) x (count_up 0 count) s.at in
        two x s.of p.of p.is (in_up count s.of s.within) (in_up count p.of p.at)
    | inr i ↦
        let s = flat_in (λ (k : ℕ). map (Product.of_pair k) (slots k)) x (count_up 0 count) i in
        let p = map_in (Product.of_pair s.of) x (slots s.of) s.at in
        pair x s.of p.of p.is (in_up count s.of s.within) (slots_in w (first_word atoms s.of) (get_or target 0 0) n listed p.of p.at)
  ]

  -- no two atoms fit, and no atom with a pair does
  pub record NoneFits : Type 0 where
    pub two : (a b : ℕ) → a < count → b < count → fits w target (part_at 16 atoms a) (part_at 16 atoms b) ≡ false
    pub pair : (a s : ℕ) → a < count → s < n → fits w target (part_at 16 atoms a) (part_at 16 listed s) ≡ false

  module _ (f : Forms) where
    pub nothing-fits : try_everything w count atoms n listed target f ≡ none → NoneFits
    unfolding try_everything fitting
    nothing-fits e = record {
      two = λ a b ha hb. least-none (fitting w atoms listed target) (cheaper f) all e (Product.of_atoms a b) (in_two a b ha hb);
      pair = λ a s ha hs. least-none (fitting w atoms listed target) (cheaper f) all e (Product.of_pair a s) (in_pair a s ha hs);
    }

    pub fits-nothing : NoneFits → try_everything w count atoms n listed target f ≡ none
    unfolding try_everything fitting
    fits-nothing h = none-least (fitting w atoms listed target) (cheaper f) all (λ x i. go x (tried x i))
      where
        go : (x : Product) → Tried x → fitting w atoms listed target x ≡ false
        go x (two _ a b e ha hb) = ap (fitting w atoms listed target) e ∙ h.two a b ha hb
        go x (pair _ a s e ha hs) = ap (fitting w atoms listed target) e ∙ h.pair a s ha hs
