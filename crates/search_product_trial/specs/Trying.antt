-- Trying everything, demand 3's measure: no filter, no bound, no list of candidates. It is fed the width, both counts, the atoms' and the pairs' rows,
-- the target, and since 02, 2.4 the atoms' formulas and the pairs' gates and atom slots. Assumes nothing.
use Rattle.std.specs.Prelude.{Bool, cond, ℕ, ◌%◌, ◌^◌, get_or}
use mathlib.Core.List.{List, map, flat_map, ◌++◌}
use Rattle.std.proofs.Math.Option.{Option}
use Rattle.arrays.specs.Lists.{count_up}
use Rattle.arrays.specs.Least.{least_that}
use Rattle.arrays.specs.Parts.{part_at}
use Rattle.row_gates.specs.Gates.{gate_row, reduced_row, same_row}
use Rattle.row_gates.specs.declared.Gate.TheVariants.{Mul}
use Rattle.expr.specs.declared.Token.{Token}
use Rattle.expr_cost.specs.declared.Cost.{Cost}
use Rattle.expr_cost.specs.Cost.{info_of, cost_of, is_better}
use Rattle.index_order.specs.Order.{first_word, order_of}
use Rattle.search_equation.specs.Equation.{used}
use Rattle.search_product_forms.specs.Forms.{Forms, atom_form, pair_form, gated}

-- 01, Product search: a trial fits if all sixteen products of the two rows' words equal the target's words modulo 2^w
unfoldable pub fits : ℕ → List ℕ → List ℕ → List ℕ → Bool
unfolding gate_row same_row
fits w target a b = same_row (gate_row Mul w a b) (reduced_row w target)

-- 01, Product search: two atom slots, or an atom slot and a pair slot. A trial, and an answer
pub data Product : Type 0 where
  of_atoms : ℕ → ℕ → Product
  of_pair : ℕ → ℕ → Product

-- 01, Built means: in a product an atom stands for its row
unfoldable pub fitting : ℕ → List ℕ → List ℕ → List ℕ → Product → Bool
unfolding fits part_at
fitting w atoms listed target (Product.of_atoms a b) = fits w target (part_at 16 atoms a) (part_at 16 atoms b)
fitting w atoms listed target (Product.of_pair a s) = fits w target (part_at 16 atoms a) (part_at 16 listed s)

-- 01, Product search: by ascending (first row word, slot) where the rule says "used" for the first words of a's row, p, and of the target, t; by slot otherwise
unfoldable pub slots_for : ℕ → ℕ → ℕ → ℕ → List ℕ → List ℕ
unfolding used order_of count_up
slots_for w p t n listed = cond (used (p % 2 ^ w) (t % 2 ^ w)) (order_of n listed) (count_up 0 n)

-- 01, Product search: every atom a, ascending, with every atom b, ascending
unfoldable pub with_atoms : ℕ → List Product
unfolding flat_map count_up
with_atoms count = flat_map (λ (a : ℕ). map (Product.of_atoms a) (count_up 0 count)) (count_up 0 count)

-- 01, Product search: every a again, ascending, with every listed pair
unfoldable pub with_pairs : ℕ → ℕ → List ℕ → ℕ → List ℕ → List ℕ → List Product
unfolding flat_map count_up slots_for
with_pairs w count atoms n listed target = flat_map (λ (a : ℕ). map (Product.of_pair a) (slots_for w (first_word atoms a) (get_or target 0 0) n listed)) (count_up 0 count)

-- 01, Product search: first the atoms with each other, then with the pairs
unfoldable pub trials_of : ℕ → ℕ → List ℕ → ℕ → List ℕ → List ℕ → List Product
unfolding with_atoms with_pairs
trials_of w count atoms n listed target = with_atoms count ++ with_pairs w count atoms n listed target

-- 02, 2.4: the whole written-out formula: a, b, Mul or a, b, c, gate, Mul
unfoldable pub product_form : Forms → Product → List Token
unfolding atom_form pair_form
product_form f (Product.of_atoms a b) = gated (atom_form f a) (atom_form f b) Mul
product_form f (Product.of_pair a s) = gated (atom_form f a) (pair_form f s) Mul

-- 02, 2.4: its cost, worked out from the tokens
unfoldable pub product_cost : Forms → Product → Cost
unfolding product_form info_of
product_cost f x = cost_of (product_form f x)

-- 02, 2.4: by the cost order
unfoldable pub cheaper : Forms → Product → Product → Bool
unfolding product_cost is_better
cheaper f x y = is_better (product_cost f x) (product_cost f y)

-- 02, 2.4: trying everything means keeping the least; among equal costs the earlier in 01's search order, none if no trial fits
unfoldable pub try_everything : ℕ → ℕ → List ℕ → ℕ → List ℕ → List ℕ → Forms → Option Product
unfolding least_that fitting cheaper trials_of
try_everything w count atoms n listed target f = least_that (fitting w atoms listed target) (cheaper f) (trials_of w count atoms n listed target)
