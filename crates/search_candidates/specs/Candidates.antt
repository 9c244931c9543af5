-- The candidates of the product filter, from its inputs alone. Assumes nothing.
use Rattle.std.specs.Prelude as std
use Rattle.std.specs.Prelude.{◌≡◌, ◌||◌, cond, List, ◌++◌, ℕ, ◌^◌, leb, ltb, length, drop, Some, None, Result}
use Rattle.std.proofs.Math.Option.{Option, none, some}
use Rattle.arrays.specs.Lists.{keep}
use Rattle.limits.specs.Refusal.{refuse, unless_refused, bad_width, outcome, says_by}
use Rattle.limits.specs.declared.Refusal.{Refusal}
use Rattle.index_order.specs.Order.{first_word, order_of}
use Rattle.search_equation.specs.Equation.{used, solves}
use Rattle.search_filter.specs.Refusals.{short_pairs, wrong_order}
use Rattle.limits.specs.Limits.{too_many_pairs}

-- 01, Candidates: all slots whose first word f has p × f = t modulo 2^w, in order-list order
unfoldable pub candidates : ℕ → ℕ → ℕ → ℕ → List ℕ → List ℕ
unfolding keep solves order_of
candidates w p t n rows = keep (λ (s : ℕ). solves w p t (first_word rows s)) (order_of n rows)

-- 01, Turned back, for the candidates: 2, 4, 5, 7, 8. The list has a place for each listed pair
abbrev pub candidates_refusal : ℕ → ℕ → List ℕ → List ℕ → ℕ → ℕ → List ℕ → ℕ
candidates_refusal w n rows order p t list =
    refuse (bad_width w) 2
    (refuse (short_pairs n rows order || ltb (length list) n) 4
    (refuse (leb (2 ^ w) p || leb (2 ^ w) t) 5
    (refuse (too_many_pairs n) 7
    (refuse (wrong_order n rows order) 8 0))))

-- 01, Expected forms ..: how many candidates there are, none for "not used"
abbrev pub counted : std.Option ℕ → Option ℕ
counted None = none
counted (Some count) = some count

-- 01, Agreed between us: the result and the final list. 01, Candidates: "not used" writes nothing
pub record Collected (w n : ℕ) (rows order : List ℕ) (p t : ℕ) (old new : List ℕ) (r : Result (std.Option ℕ) Refusal) : Type 0 where
  pub says : says_by counted r ≡ outcome (candidates_refusal w n rows order p t old) (cond (used p t) (some (length (candidates w p t n rows))) none)
  pub list : new
      ≡ unless_refused (candidates_refusal w n rows order p t old)
      (cond (used p t) (candidates w p t n rows ++ drop (length (candidates w p t n rows)) old) old)
      old
