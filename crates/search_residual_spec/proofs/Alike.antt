-- The residual search turns back as the product search does that is lent the right order list, and formulas and pairs whose tests pass. Assumes nothing.
use mathlib.Core.Path.{◌≡◌, sym, ap, ap₂, ◌∙◌}
use mathlib.Core.Bool.{Bool, false, not, ◌||◌}
use mathlib.Core.List.{List}
use Prim.Native.Nat.{ℕ, ◌^◌}
use native.Mathlib.Omega.{arith}
use borrow.Author.Tests.{le-ltb}
use lib.ListN.{length, take}
use lib.Seq.{take_all}
use Rattle.arrays.proofs.Lists.{or_false}
use Rattle.limits.specs.Refusal.{refuse, bad_width}
use Rattle.limits.specs.Limits.{too_few_rows, too_many_atoms, too_many_pairs}
use Rattle.index_order.specs.Order.{order_of}
use Rattle.index_order.proofs.OrderLaws.{order-length, order_exactly}
use Rattle.row_lent.specs.Range.{reaches}
use Rattle.search_filter.specs.Refusals.{short_pairs, wrong_order}
use Rattle.search_residual_spec.specs.Sums.{TurnsBackAlike}

-- the order list has an entry for each pair, and passes its test
order-there : (n : ℕ) (listed : List ℕ) → short_pairs n listed (order_of n listed) ≡ too_few_rows n listed
order-there n listed =
    ap (λ (b : Bool). too_few_rows n listed || b) (le-ltb (length (order_of n listed)) n (omega (arith, order-length n listed))) ∙ or_false (too_few_rows n listed)

order-right : (n : ℕ) (listed : List ℕ) → wrong_order n listed (order_of n listed) ≡ false
order-right n listed = ap not ((order_exactly n listed (take n (order_of n listed))).it_does (take_all n (order_of n listed) (omega (arith, order-length n listed))))

-- the chain of the product search, by its five tests that the residual search lacks
abbrev chain : ℕ → ℕ → List ℕ → ℕ → List ℕ → Bool → Bool → Bool → Bool → Bool → ℕ
chain w count atoms n target short forms-short bad-atom bad-pair wrong =
    refuse (bad_width w) 2
    (refuse (too_few_rows count atoms || (short || forms-short)) 4
    (refuse (reaches (2 ^ w) target) 5
    (refuse bad-atom 6
    (refuse (too_many_atoms count || (too_many_pairs n || bad-pair)) 7
    (refuse wrong 8 0)))))

pub turns-back_alike : TurnsBackAlike
turns-back_alike w count atoms n listed target f long atoms-good pairs-good =
    let short = short_pairs n listed (order_of n listed) in
    ap₂ (λ (x y : Bool). refuse (bad_width w) 2 (refuse (too_few_rows count atoms || x) 4 (refuse (reaches (2 ^ w) target) 5 (refuse (too_many_atoms count || y) 7 0))))
    (sym (or_false (too_few_rows n listed))) (sym (or_false (too_many_pairs n)))
    ∙ ap₂ (λ (x y : Bool). chain w count atoms n target x false false false y) (sym (order-there n listed)) (sym (order-right n listed))
    ∙ λ i. chain w count atoms n target short (sym long i) (sym atoms-good i) (sym pairs-good i) (wrong_order n listed (order_of n listed))
